-- A position from the average that stands in its cell. Assumes nothing.
use mathlib.Core.Path.{◌≡◌}
use Prim.Native.Nat.{ℕ, ◌-◌, ◌*◌, ◌≤◌}
use lib.Ieee.{Float}
use Rattle.cells.specs.Line.{Line, plus_zero}
use Rattle.cells.proofs.Line.{from_bar_lem}
use Rattle.rules_single.specs.Single.{against_mean}
use Rattle.rules_single.specs.inner.Positions.{positions}

pub position_at : (n : ℕ) (f g : Line) (i : ℕ) {m : Float} → m ≡ g i → 2 * n - 2 ≤ i → against_mean (f i) m
    ≡ positions n f g i
position_at n f g i e h = rw (e, from_bar_lem (2 * n - 2) plus_zero _ i h)
