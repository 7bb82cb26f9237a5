-- The coefficients of Ehlers' ultimate smoother, made from a period. Assumes nothing.
use Rattle.std.specs.Prelude.{ℕ, zero, suc, false, List, map, pos, from_bits, slice_index_or, Float}
use Rattle.std.specs.Float.{nan, fin, binary64}
use Rattle.std.specs.Float.Ieee.{neg, add, sub, mul, div}
use Rattle.cells.specs.Line.{plus_zero}
use Rattle.smoother_table.specs.declared.Coefficients.{Coefficients}
use Rattle.smoother_table.specs.Recorded.{a1_bits, b1_bits}

unfoldable pub a1_table : List Float
a1_table = map (from_bits binary64) a1_bits

unfoldable pub b1_table : List Float
b1_table = map (from_bits binary64) b1_bits

-- a1 of a period up to 512. At period 0 the source's exp is taken of minus infinity, which gives 0.0.
unfoldable pub a1_of : ℕ → Float
a1_of zero = plus_zero
a1_of (suc k) = slice_index_or a1_table k nan

-- b1 of a period up to 512. At period 0 the source's cos is taken of infinity, which gives NaN.
unfoldable pub b1_of : ℕ → Float
b1_of zero = nan
b1_of (suc k) = slice_index_or b1_table k nan

-- 2 ^ k
abbrev pub power : ℕ → Float
power k = fin false 1 (pos k)

-- c2 is b1, c3 is -a1 * a1, c1 is (1 + c2 - c3) / 4
unfoldable pub of_pair : Float → Float → Coefficients
of_pair a1 b1 =
    let c3 = mul binary64 (neg a1) a1 in
    record { c1 = div binary64 (sub binary64 (add binary64 (power 0) b1) c3) (power 2); c2 = b1; c3 = c3 }

unfoldable pub coefficients : ℕ → Coefficients
coefficients period = of_pair (a1_of period) (b1_of period)
