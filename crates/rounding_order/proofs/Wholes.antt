-- Whole numbers in f64 are in the order of the numbers. Assumes nothing.
use mathlib.Core.Path.{◌≡◌, refl, ap, ◌∙◌}
use mathlib.Core.Bool.{false, not}
use Prim.Native.Nat.{suc, ◌+◌, ◌^◌, ◌≤◌}
use native.Mathlib.Nat.{zero-lt-suc}
use native.Mathlib.Omega.{arith}
use borrow.Author.Tests.{lt-ltb}
use lib.IntN.{ℤ, pos, negsuc, nat_abs}
use lib.Signed.{lt_z}
use lib.Ieee.{binary64, of_int, lt, le, is_nan}
use lib.Ieee.{below as is_below}
use Rattle.rounding.specs.Whole.{is_negative}
use Rattle.rounding_laws.proofs.Integers.{ltb_same}
use Rattle.rounding_laws.proofs.Value.{lt_at, value_number}
use Rattle.rounding_laws.proofs.Whole.{whole_value}
use Rattle.rounding_order.proofs.Compared.{le_is}

below_whole : (a b : ℤ) → is_below (is_negative a) (nat_abs a) (is_negative b) (nat_abs b) ≡ lt_z a b
below_whole (pos a) (pos b) = refl
below_whole (pos a) (negsuc b) = refl
below_whole (negsuc a) (pos b) = lt-ltb 0 (suc a + b) (omega arith)
below_whole (negsuc a) (negsuc b) = ltb_same (suc b) (suc a) b a (λ h. omega arith) (λ h. omega arith)

lt_whole : (a b : ℤ) → nat_abs a ≤ 2 ^ 53 → nat_abs b ≤ 2 ^ 53 → lt (of_int binary64 a) (of_int binary64 b) ≡ lt_z a b
lt_whole a b h k =
    lt_at (of_int binary64 a) (of_int binary64 b) (is_negative a) (nat_abs a) (is_negative b) (nat_abs b) 1
    (zero-lt-suc 0)
    (whole_value binary64 a h) (whole_value binary64 b k)
    ∙ below_whole a b

number : (a : ℤ) → nat_abs a ≤ 2 ^ 53 → is_nan (of_int binary64 a) ≡ false
number a h = value_number _ _ _ _ (whole_value binary64 a h)

pub le_whole : (a b : ℤ) → nat_abs a ≤ 2 ^ 53 → nat_abs b ≤ 2 ^ 53
    → le (of_int binary64 a) (of_int binary64 b) ≡ not (lt_z b a)
le_whole a b h k =
    le_is (of_int binary64 a) (of_int binary64 b) (number a h) (number b k) ∙ ap not (lt_whole b a k h)
