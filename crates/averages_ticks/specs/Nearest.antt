-- What it is to be the whole number nearest to a fraction, a half to the even one. Assumes nothing.
use Rattle.std.specs.Prelude.{◌≡◌, ℕ, ◌+◌, ◌*◌, ◌/◌, ◌%◌, ◌≤◌, ℤ, pos, nat_abs, ◌-ℤ◌, ◌*ℤ◌}
use Rattle.rounding.specs.Nearest.{signed}
use Rattle.rounding.specs.Whole.{is_negative}

-- how far x is from z / n, times n: a whole number
abbrev pub distance : ℤ → ℕ → ℤ → ℕ
distance z n x = nat_abs (x *ℤ pos n -ℤ z)

-- z / n to a whole number, a half away from zero
abbrev pub half_away : ℤ → ℕ → ℤ
half_away z n = signed (is_negative z) ((2 * nat_abs z + n) / (2 * n))

-- x is a whole number nearest to z / n: none is nearer; where another is as near, x is even; and where no other is, x
-- is what a half away from zero gives too
pub record NearestWhole (z : ℤ) (n : ℕ) (x : ℤ) : Type 0 where
  pub least : (y : ℤ) → distance z n x ≤ distance z n y
  pub even : (y : ℤ) → distance z n x ≡ distance z n y → ¬ (x ≡ y) → nat_abs x % 2 ≡ 0
  pub alone : ((y : ℤ) → distance z n x ≡ distance z n y → x ≡ y) → x ≡ half_away z n
