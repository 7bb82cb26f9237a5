-- The oscillator's cells as the loops find them. Assumes nothing.
use mathlib.Core.Path.{◌≡◌}
use Prim.Native.Nat.{ℕ, ◌+◌, ◌-◌, ◌≤◌, max}
use native.Mathlib.Omega.{arith}
use lib.Ieee.{Float, nan}
use Rattle.cells.specs.Line.{Line}
use Rattle.cells.proofs.Line.{from_bar_lem}
use Rattle.oscillator.specs.Oscillator.{share, weighed, weighed_shares}

pub cell_is : (z : Float) (n m k i : ℕ) (f g : Line) {x y w : Float} → x ≡ share z n f g i → y ≡ share z m f g i
    → w ≡ share z k f g i → max n (max m k) ≤ i + 1 → weighed x y w ≡ weighed_shares z n m k f g i
unfolding weighed_shares
cell_is z n m k i f g a b c h = rw (a, b, c, from_bar_lem (max n (max m k) - 1) nan _ i (omega arith))
