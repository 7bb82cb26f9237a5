-- NaN inputs before a line's first bar stay in the smoother's feedback. Where the line begins at bar 3, the smoothed
-- line is NaN from bar 4 on; where it begins at bar 4 or later, it is NaN at every bar. Assumes nothing.
use Rattle.std.proofs.Common.{◌≡◌, ℕ, zero, suc, ◌<◌, ◌≤◌, arith}
use lib.Ieee.{Float, nan, add}
use Rattle.cells.specs.Line.{Line}
use Rattle.smoother_table.specs.declared.Coefficients.{Coefficients}
use Rattle.smoother.specs.Smoother.{formula, smooth}
use Rattle.rounding.proofs.NotANumber.{nan_last, nan_factor}
use Rattle.smoother.proofs.Smoother.{nan_third}

-- a cell before it that is NaN makes a cell NaN
nan_cell : (c : Coefficients) (x y z u : Float) → formula c x y z nan u ≡ nan
unfolding formula add
nan_cell c x y z u = rw (nan_factor, nan_last)

module _ (c : Coefficients) (f : Line) where
  -- bar 4 reads the input of bar 2, and every later bar the cell before it
  four_on : f 2 ≡ nan → (k : ℕ) → smooth c f (suc (suc (suc (suc k)))) ≡ nan
  unfolding smooth
  four_on late zero = rw (late, nan_third)
  four_on late (suc k) = rw (four_on late k, nan_cell)

  pub nan_from_4 : f 2 ≡ nan → (i : ℕ) → 4 ≤ i → smooth c f i ≡ nan
  nan_from_4 late zero h = absurd (omega arith)
  nan_from_4 late (suc zero) h = absurd (omega arith)
  nan_from_4 late (suc (suc zero)) h = absurd (omega arith)
  nan_from_4 late (suc (suc (suc zero))) h = absurd (omega arith)
  nan_from_4 late (suc (suc (suc (suc k)))) h = four_on late k

  -- the first four cells copy the input
  pub nan_throughout : ((i : ℕ) → i < 4 → f i ≡ nan) → (i : ℕ) → smooth c f i ≡ nan
  unfolding smooth
  nan_throughout late zero = late 0 (omega arith)
  nan_throughout late (suc zero) = late 1 (omega arith)
  nan_throughout late (suc (suc zero)) = late 2 (omega arith)
  nan_throughout late (suc (suc (suc zero))) = late 3 (omega arith)
  nan_throughout late (suc (suc (suc (suc k)))) = four_on (late 2 (omega arith)) k
