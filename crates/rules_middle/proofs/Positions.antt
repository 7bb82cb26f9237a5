-- A position from the mean and the range that stand in its cells. Assumes nothing.
use mathlib.Core.Path.{◌≡◌}
use Prim.Native.Nat.{ℕ, ◌+◌, ◌-◌, ◌*◌, ◌≤◌}
use lib.Ieee.{Float}
use Rattle.cells.specs.Line.{Line, plus_zero}
use Rattle.cells.proofs.Line.{from_bar_lem}
use Rattle.rules_middle.specs.Middle.{against_middle}
use Rattle.rules_middle.specs.inner.Positions.{positions}

pub position_at : (n bars : ℕ) (g rows : Line) (i : ℕ) {m h l : Float} → m ≡ g i → h ≡ rows i → l ≡ rows (bars + i)
    → 2 * n - 2 ≤ i → against_middle m h l ≡ positions n bars g rows i
position_at n bars g rows i e p q b = rw (e, p, q, from_bar_lem (2 * n - 2) plus_zero _ i b)
