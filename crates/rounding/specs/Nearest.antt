-- What it is to be the number of a format nearest to a fraction. Every finite number is a whole number of units, the
-- format's smallest value 2 ^ -low, with a sign. Assumes nothing.
use Rattle.std.specs.Prelude.{◌≡◌, ℕ, ◌*◌, ◌/◌, ◌%◌, ◌^◌, ◌≤◌, Bool, cond, T, ℤ, pos, ◌-ℤ◌, ◌*ℤ◌, neg_ℤ, to_bits, unsigned_abs, Float}
use Rattle.std.specs.Float.{fin, Format, nan, inf}
use Rattle.std.specs.Float.Ieee.{low, fits, up, down}
use Rattle.std.specs.Float.Ieee.Scale.{finite}
use Rattle.rounding.specs.Leaves.{negative}

-- u with a sign
abbrev pub signed : Bool → ℕ → ℤ
signed s u = cond s (neg_ℤ (pos u)) (pos u)

-- a finite number of the format f in units of f's smallest value, whatever its sign
abbrev pub in_units : Format → Float → ℕ
in_units f nan = 0
in_units f (inf s) = 0
in_units f (fin s m e) = m * up e * 2 ^ low f / down e

-- a finite number's value in units
unfoldable pub signed_units : Format → Float → ℤ
unfolding negative
signed_units f x = signed (negative x) (in_units f x)

-- how far x is from z / c, times c · 2 ^ low: a whole number
unfoldable pub distance : Format → Float → ℤ → ℕ → ℕ
distance f x z c = unsigned_abs (signed_units f x *ℤ pos c -ℤ z *ℤ pos (2 ^ low f))

-- x is a finite number of the format f
pub record Number (f : Format) (x : Float) : Type 0 where
  pub fit : T (fits f x)
  pub ends : T (finite x)

-- x is the number of the format f that is nearest to z / n: none is nearer, and where another is as near, the last
-- bit of x is 0
pub record NearestTo (f : Format) (z : ℤ) (n : ℕ) (x : Float) : Type 0 where
  pub number : Number f x
  pub least : (y : Float) → Number f y → distance f x z n ≤ distance f y z n
  pub even : (y : Float) → Number f y → distance f x z n ≡ distance f y z n → ¬ (signed_units f x ≡ signed_units f y)
      → to_bits f x % 2 ≡ 0
