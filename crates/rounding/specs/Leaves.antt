-- The leaves: what `magnitude`, `sign` and `round_to_whole` give, for every f64. The function `is_nan` gives the
-- definition `is_nan` of std's Float.Ieee. A float is `nan`, `inf s` or `fin s m e`, which is m * 2 ^ e, negative where
-- s is true; there is one `nan`, so no promise speaks of the bits inside a NaN. Assumes nothing.
use Rattle.std.specs.Prelude.{ℕ, ◌+◌, ◌*◌, ◌/◌, Bool, true, false, ℤ, pos}
use lib.Ieee.{Float, nan, inf, fin, binary64, up, down, round}

-- 1 with a sign
abbrev pub one : Bool → Float
one s = fin s 1 (pos 0)

abbrev pub plus_one : Float
plus_one = one false

abbrev pub minus_one : Float
minus_one = one true

abbrev pub two : Float
two = fin false 1 (pos 1)

-- whether the sign is set: -0.0 and below
unfoldable pub negative : Float → Bool
negative nan = false
negative (inf s) = s
negative (fin s m e) = s

-- The number without its sign, as Rust's `f64::abs`.
unfoldable pub magnitude_of : Float → Float
magnitude_of nan = nan
magnitude_of (inf s) = inf false
magnitude_of (fin s m e) = fin false m e

-- +1 for +0.0 and above, -1 for -0.0 and below, as Rust's `f64::signum`.
unfoldable pub sign_of : Float → Float
sign_of nan = nan
sign_of (inf s) = one s
sign_of (fin s m e) = one s

-- the whole part of m * 2 ^ e + 1 / 2: m * 2 ^ e to the nearest whole number, a half up
abbrev pub half_up : ℕ → ℤ → ℕ
half_up m e = (2 * (m * up e) + down e) / (2 * down e)

-- The nearest whole number, a half away from zero, with the sign kept where it is 0, as Rust's `f64::round`.
-- `round` finds the f64 of that whole number, which is exact.
unfoldable pub round_to_whole : Float → Float
round_to_whole nan = nan
round_to_whole (inf s) = inf s
round_to_whole (fin s m e) = round binary64 s (half_up m e) 1
