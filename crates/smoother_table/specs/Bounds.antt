-- What is said of one period's recorded numbers: 0 < a1 < 1, and |b1| is at most 2 * a1. Assumes nothing.
use Rattle.std.specs.Prelude.{◌≡◌, Bool, true, ◌&&◌, Float}
use Rattle.std.specs.Float.{binary64}
use Rattle.std.specs.Float.Ieee.{mul, lt, le}
use Rattle.cells.specs.Line.{plus_zero}
use Rattle.rounding.specs.Leaves.{magnitude_of}
use Rattle.smoother_table.specs.Coefficients.{power}

-- ---- the tests

-- 0 < a1 < 1 and |b1| <= 2 * a1
abbrev pub in_bounds : Float → Float → Bool
in_bounds a1 b1 = lt plus_zero a1 && lt a1 (power 0) && le (magnitude_of b1) (mul binary64 (power 1) a1)

pub record InBounds (a1 b1 : Float) : Type 0 where
  pub above_0 : lt plus_zero a1 ≡ true
  pub below_1 : lt a1 (power 0) ≡ true
  pub double : le (magnitude_of b1) (mul binary64 (power 1) a1) ≡ true
