-- Why the quick test is right: a number whose bits are at most those of 2 ^ k lies from 0.0 to 2 ^ k. Assumes nothing.
use Rattle.std.specs.Prelude.{◌≡◌, ℕ, zero, suc, ◌+◌, ◌^◌, ◌<◌, ◌≤◌, false, cond, List, length, pos, bit_or, slice_index_or, to_bits, Float}
use Rattle.std.specs.Float.{nan, fin, binary64}
use Rattle.std.specs.Float.Ieee.{lt}
use Rattle.std.specs.Float.Ieee.Exact.{HasValue}
use Rattle.cells.specs.Line.{Line}

-- x, where it is below 2 ^ 31. What is not, a NaN too, counts as 2 ^ 31.
unfoldable pub capped : Float → Float
capped x = cond (lt x (fin false 1 (pos 31))) x (fin false 1 (pos 31))

-- the bits of k numbers from index a on, one upon the other (OR)
unfoldable pub bits_from : Line → ℕ → ℕ → ℕ
bits_from f a zero = 0
bits_from f a (suc k) = bit_or (bits_from f a k) (to_bits binary64 (capped (f (a + k))))

-- b are those bits
pub record BitsOf (f : Line) (a k b : ℕ) : Type 0 where
  pub is : b ≡ bits_from f a k

-- x is a number of smallest values, 2 ^ -1074 each, from 0 to 2 ^ k
pub record UpTo (k : ℕ) (x : Float) : Type 0 where
  pub count : ℕ
  pub value : HasValue x false count (2 ^ 1074)
  pub at_most : count ≤ 2 ^ (k + 1074)

-- ---- every number of a list

-- each lies from 0.0 to 2 ^ k
abbrev pub EachUpTo : ℕ → List Float → Type 0
EachUpTo k s = (i : ℕ) → i < length s → UpTo k (slice_index_or s i nan)
