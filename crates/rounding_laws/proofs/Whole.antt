-- Whole numbers in a format. Up to 2 ^ prec either way each has its own float, `of_int f z`, and such floats add,
-- subtract and multiply exactly. Assumes nothing.
use mathlib.Core.Path.{◌≡◌, refl, ◌∙◌}
use mathlib.Core.Bool.{Bool, true, false, not, cond}
use Prim.Native.Nat.{ℕ, zero, suc, ◌+◌, ◌-◌, ◌*◌, ◌^◌, ◌<◌, ◌≤◌, zero-le}
use native.Mathlib.Nat.{zero-add, add-zero, sub-zero, lt_trans, lt_irrefl, zero-lt-suc, mul-pos}
use native.Mathlib.Omega.{arith}
use borrow.Author.Tests.{lt-ltb, le-ltb}
use lib.Dec.{T, ltb, ltb→lt, nltb→le}
use lib.IntN.{ℤ, pos, negsuc, nat_abs, sub_ℕ, ◌+ℤ◌, ◌-ℤ◌, ◌*ℤ◌, +ℤ_idr}
use lib.Ieee.{fin, Format, prec, unlike, round, sum, add, sub, mul, of_int}
use lib.Ieee.Back.{round_whole}
use lib.Ieee.Exact.{HasValue}
use Rattle.rounding_laws.proofs.Value.{add_at, sub_at, mul_at}
use Rattle.rounding.specs.Whole.{is_negative}

pub whole_value : (f : Format) (z : ℤ) → nat_abs z ≤ 2 ^ prec f → HasValue (of_int f z) (is_negative z) (nat_abs z) 1
unfolding of_int
whole_value f (pos n) h = round_whole f false n h
whole_value f (negsuc n) h = round_whole f true (suc n) h

-- ---- the sum of two integers, rounded once, is the float of their sum

sum_apart : (f : Format) (a b : ℕ) → sum f false a true (suc b) 1 ≡ of_int f (sub_ℕ a (suc b))
unfolding sum of_int
sum_apart f a b = go (ltb a (suc b)) (ltb→lt a (suc b))
  where
    go : (t : Bool) → (T t → a < suc b)
        → cond t (round f true (suc b - a) 1) (round f false (a - suc b) 1)
        ≡ of_int f (cond t (negsuc (suc b - suc a)) (pos (a - suc b)))
    go true h = let l : a < suc b = h tt in let e : suc b - a ≡ suc (suc b - suc a) = omega arith in rw e
    go false h = refl

pub sum_turned : (f : Format) (a b c : ℕ) → sum f true a false b c ≡ sum f false b true a c
unfolding sum
sum_turned f a b c = go (ltb a b) (ltb b a) (ltb→lt a b) (nltb→le a b) (ltb→lt b a) (nltb→le b a)
  where
    go : (t u : Bool) → (T t → a < b) → (T (not t) → b ≤ a) → (T u → b < a) → (T (not u) → a ≤ b)
        → cond t (round f false (b - a) c) (round f u (a - b) c)
        ≡ cond u (round f true (a - b) c) (round f false (b - a) c)
    go true true h k h' k' = absurd (lt_irrefl a (lt_trans (h tt) (h' tt)))
    go true false h k h' k' = refl
    go false true h k h' k' = refl
    go false false h k h' k' = let l : b ≤ a = k tt in let m : a ≤ b = k' tt in let e : a ≡ b = omega arith in rw e

sum_whole : (f : Format) (a b : ℤ) → sum f (is_negative a) (nat_abs a) (is_negative b) (nat_abs b) 1 ≡ of_int f (a +ℤ b)
unfolding sum of_int
sum_whole f (pos a) (pos b) = refl
sum_whole f (pos a) (negsuc b) = sum_apart f a b
sum_whole f (negsuc a) (pos b) = sum_turned f (suc a) b 1 ∙ sum_apart f b a
sum_whole f (negsuc a) (negsuc b) = let e : suc a + suc b ≡ suc (suc (a + b)) = omega arith in rw e

-- with the second one taken away
sum_minus : (f : Format) (a b : ℤ) → sum f (is_negative a) (nat_abs a) (not (is_negative b)) (nat_abs b) 1
    ≡ of_int f (a -ℤ b)
unfolding sum of_int
sum_minus f (pos a) (pos zero) = rw (le-ltb a 0 zero-le, sub-zero, add-zero)
sum_minus f (negsuc a) (pos zero) = rw (+ℤ_idr (negsuc a), add-zero)
sum_minus f a (pos (suc b)) = sum_whole f a (negsuc b)
sum_minus f a (negsuc b) = sum_whole f a (pos (suc b))

-- added to -0.0, with which a sum begins
sum_first : (f : Format) (z : ℤ) → sum f true 0 (is_negative z) (nat_abs z) 1 ≡ of_int f z
unfolding sum of_int
sum_first f (pos zero) = refl
sum_first f (pos (suc n)) = rw (lt-ltb 0 (suc n) (zero-lt-suc n), sub-zero)
sum_first f (negsuc n) = rw zero-add

module _ (f : Format) (a b : ℤ) (h : nat_abs a ≤ 2 ^ prec f) (k : nat_abs b ≤ 2 ^ prec f) where
  pub add_whole : add f (of_int f a) (of_int f b) ≡ of_int f (a +ℤ b)
  add_whole =
      add_at (of_int f a) (of_int f b) (is_negative a) (nat_abs a) (is_negative b) (nat_abs b) 1 (zero-lt-suc 0)
      (whole_value f a h) (whole_value f b k) f
      ∙ sum_whole f a b

  pub sub_whole : sub f (of_int f a) (of_int f b) ≡ of_int f (a -ℤ b)
  sub_whole =
      sub_at (of_int f a) (of_int f b) (is_negative a) (nat_abs a) (is_negative b) (nat_abs b) 1 (zero-lt-suc 0)
      (whole_value f a h) (whole_value f b k) f
      ∙ sum_minus f a b

pub add_first : (f : Format) (z : ℤ) → nat_abs z ≤ 2 ^ prec f → add f (fin true 0 (pos 0)) (of_int f z) ≡ of_int f z
add_first f z h = add_at (fin true 0 (pos 0)) (of_int f z) true 0 (is_negative z) (nat_abs z) 1 (zero-lt-suc 0)
    (refl, refl) (whole_value f z h) f ∙ sum_first f z

-- ---- a product

-- of a size and a sign; with 0 for n a negative number would give -0.0
product_whole : (f : Format) (a : ℤ) (n : ℕ) → 0 < n → round f (unlike (is_negative a) false) (nat_abs a * n) (1 * 1)
    ≡ of_int f (a *ℤ pos n)
unfolding of_int
product_whole f (pos a) n p = refl
product_whole f (negsuc a) n p = let e : suc a * n
    ≡ suc (suc a * n - 1) = omega (arith, mul-pos (zero-lt-suc a) p) in rw e

-- whole numbers, the second above 0
pub mul_whole : (f : Format) (a : ℤ) (n : ℕ) → nat_abs a ≤ 2 ^ prec f → (0 < n) × (n ≤ 2 ^ prec f)
    → mul f (of_int f a) (of_int f (pos n)) ≡ of_int f (a *ℤ pos n)
mul_whole f a n h (p, k) =
    mul_at (of_int f a) (of_int f (pos n)) (is_negative a) (nat_abs a) 1 false n 1 (zero-lt-suc 0) (zero-lt-suc 0)
    (whole_value f a h) (whole_value f (pos n) k) f
    ∙ product_whole f a n p
