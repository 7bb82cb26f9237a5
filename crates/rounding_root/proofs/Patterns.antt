-- An f64's bits and its value: what the bits of a number above zero say of its root, and which bits a root has.
-- Assumes nothing.
use mathlib.Core.Path.{◌≡◌, refl, sym, ap, ◌∙◌, subst}
use mathlib.Core.Bool.{Bool, true, false, not, cond, ◌||◌, beq, false≢true, true≢false}
use Prim.Native.Nat.{ℕ, zero, suc, ◌+◌, ◌-◌, ◌*◌, ◌/◌, ◌%◌, ◌^◌, ◌≤◌, ◌<◌}
use native.Mathlib.Nat.{
  le_trans,
  le_of_eq,
  le_of_lt,
  lt_of_lt_of_le,
  zero-lt-suc,
  zero-add,
  zero-mul,
  mul-one,
  mul_assoc,
  mul-pos,
  mul-le-mul_right,
  mul-div_cancel,
}
use native.Mathlib.Omega.{arith}
use borrow.Author.Tests.{ltb-true, ltb-false, le-ltb, ne_eqb}
use lib.IntN.{ℤ, pos}
use lib.Dec.{T, leb, eqb, eqb→eq}
use lib.Pow.{pow-add, pow_pos, pow_mono, shl_lt}
use lib.Ieee.{
  Float,
  nan,
  inf,
  fin,
  binary64,
  up,
  down,
  size,
  odd,
  units,
  lt,
  eq,
  fits,
  nan_bits,
  of_fields,
  of_bits,
  to_bits,
}
use lib.Ieee.Bits.{of_bits-to_bits, nan_bits_above}
use lib.Ieee.Exact.{HasValue, odd_sign, units_val}
use lib.Ieee.Fits.{and_l, up_pos}
use lib.Ieee.Positive.{first_pos}
use lib.Ieee.Scale.{overflow}
use Rattle.rounding_root.specs.Root.{nearest_root, sqrt_of}
use Rattle.rounding_root.specs.inner.Steps.{Digits}
use Rattle.rounding_root.proofs.Above.{Above}
use Rattle.rounding_laws.proofs.Multiples.{value_units, units_fits}
use Rattle.rounding_root.proofs.Nearest.{size_is}
use lib.Pow as Pow

-- ---- bits that are no NaN's

pub no_nan : (b : ℕ) → b ≤ 2047 * 2 ^ 52 → T (not (nan_bits binary64 b))
no_nan b h =
    let l : b % 2 ^ 63 ≤ 2047 * 2 ^ 52 = omega arith in
    subst (λ (t : Bool). T (not t)) (sym (nan_bits_above binary64 b ∙ le-ltb (2047 * 2 ^ 52) (b % 2 ^ 63) l)) tt

-- ---- the bits of a root: the digits q, and a field that says k

bits_by_value : (x : Float) (a : ℕ) → HasValue x false a (2 ^ 1074) → to_bits binary64 x
    ≡ (size a - 53) * 2 ^ 52 + a / 2 ^ (size a - 53)
unfolding to_bits
bits_by_value nan a v = absurd v
bits_by_value (inf s) a v = absurd v
bits_by_value (fin true m e) a v = absurd (true≢false v.0)
bits_by_value (fin false m e) a v =
    ap (λ (n : ℕ). 0 + (size n - 53) * 2 ^ 52 + n / 2 ^ (size n - 53)) (value_units binary64 (fin false m e) false a v)
    ∙ ap (λ (n : ℕ). n + a / 2 ^ (size a - 53)) (zero-add ((size a - 53) * 2 ^ 52))

pub written : (q k : ℕ) → Digits q → k < 2000 → of_bits binary64 (k * 2 ^ 52 + q) ≡ units binary64 false q k
written q k d l =
    let x = units binary64 false q k in
    let hi : q * 2 ^ k < 2 ^ (53 + k) = shl_lt 53 k d.high in
    let top : 53 + k ≤ 2098 = omega arith in
    let fine : q * 2 ^ k < overflow binary64 = lt_of_lt_of_le hi (pow_mono top) in
    let value = units_val binary64 false q k fine in
    let same : 53 + k ≡ suc (52 + k) = omega arith in
    let lo : 2 ^ (52 + k) ≤ q * 2 ^ k = le_trans (le_of_eq (pow-add 2 52 k)) (mul-le-mul_right (2 ^ k) d.low) in
    let size_at : size (q * 2 ^ k) ≡ suc (52 + k) = size_is (q * 2 ^ k) (52 + k) lo
    (subst (λ (z : ℕ). q * 2 ^ k < 2 ^ z) same hi) in
    let drop : size (q * 2 ^ k) - 53 ≡ k = omega arith in
    let bits : to_bits binary64 x ≡ k * 2 ^ 52 + q =
    bits_by_value x (q * 2 ^ k) value ∙ ap (λ (z : ℕ). z * 2 ^ 52 + q * 2 ^ k / 2 ^ z) drop
    ∙ ap (λ (z : ℕ). k * 2 ^ 52 + z) (mul-div_cancel q (pow_pos k)) in
    ap (of_bits binary64) (sym bits) ∙ of_bits-to_bits binary64 x (units_fits binary64 false q k (le_of_lt d.high) fine)

-- ---- the root of a number above zero, by its value

by_value : (x : Float) (s : Bool) (a : ℕ) → Above x → HasValue x s a (2 ^ 1074) → (0 < a)
    × (sqrt_of binary64 x ≡ nearest_root binary64 (a * 2 ^ 1074))
unfolding lt sqrt_of
by_value nan s a h v = absurd v
by_value (inf t) s a h v = absurd v
by_value (fin true m e) s a h v = absurd (false≢true h)
by_value (fin false zero e) s a h v = let l = ltb-true (0 * 1 * down e) (0 * up e * 1) h in absurd (omega arith)
by_value (fin false (suc m) e) s a h v = (
  first_pos a (down e) (subst (λ (y : ℕ). 0 < y) v.1 (mul-pos (mul-pos (zero-lt-suc m) (up_pos e)) (pow_pos 1074))),
  ap (λ (y : ℕ). nearest_root binary64 (y * 2 ^ 1074)) (value_units binary64 (fin false (suc m) e) s a v),
)

-- ---- by the sign, the exponent's field and the digits of its bits

abbrev sign : Float → Bool
sign x = leb (2 ^ 63) (to_bits binary64 x)

abbrev pub field : Float → ℕ
field x = to_bits binary64 x / 2 ^ 52 % 2 ^ 11

abbrev pub digits : Float → ℕ
digits x = to_bits binary64 x % 2 ^ 52

fields_of : (x : Float) (e : ℕ) → T (fits binary64 x) → field x ≡ e → x ≡ of_fields binary64 (sign x) e (digits x)
unfolding of_bits
fields_of x e h is = sym (of_bits-to_bits binary64 x h)
    ∙ ap (λ (y : ℕ). of_fields binary64 (sign x) y (digits x)) (Pow.field (to_bits binary64 x) 11 52 ∙ is)

-- the highest field is an infinity's
at_top : (x : Float) (s : Bool) (t : ℕ) → Above x → x ≡ of_fields binary64 s 2047 t → x ≡ sqrt_of binary64 x
unfolding of_fields lt sqrt_of
at_top x s t h e = go (eqb t 0) s e
  where
    go : (b s : Bool) → x ≡ cond b (inf s) nan → x ≡ sqrt_of binary64 x
    go true false e = e ∙ sym (ap (sqrt_of binary64) e)
    go true true e = absurd (false≢true (subst Above e h))
    go false s e = absurd (false≢true (subst Above e h))

-- a field of 0 is that of a subnormal number
at_low : (x : Float) (s : Bool) (t : ℕ) → x ≡ of_fields binary64 s 0 t → HasValue x s t (2 ^ 1074)
unfolding of_fields
at_low x s t e = subst (λ (y : Float). HasValue y s t (2 ^ 1074)) (sym e)
    (subst (λ (n : ℕ). HasValue (odd 53 s t 0 1074) s n (2 ^ 1074)) (mul-one t) (odd_sign 53 s t 0 1074))

-- any other has the first digit besides
at_mid : (x : Float) (s : Bool) (j t : ℕ) → suc j < 2047 → x ≡ of_fields binary64 s (suc j) t
    → HasValue x s ((2 ^ 52 + t) * 2 ^ j) (2 ^ 1074)
unfolding of_fields
at_mid x s j t h e =
    subst (λ (y : Float). HasValue y s ((2 ^ 52 + t) * 2 ^ j) (2 ^ 1074))
    (sym (e ∙ ap (λ (b : Bool). cond b (cond (eqb t 0) (inf s) nan) (odd 53 s (2 ^ 52 + t) j 1074))
    (ne_eqb (suc j) 2047 (omega arith))))
    (odd_sign 53 s (2 ^ 52 + t) j 1074)

module _ (x : Float) (held : T (fits binary64 x)) (above : Above x) where
  pub infinite : field x ≡ 2047 → x ≡ sqrt_of binary64 x
  infinite e = at_top x (sign x) (digits x) above (fields_of x 2047 held e)

  pub subnormal : field x ≡ 0 → (0 < digits x) × (sqrt_of binary64 x ≡ nearest_root binary64 (digits x * 2 ^ 1074))
  subnormal e = by_value x (sign x) (digits x) above (at_low x (sign x) (digits x) (fields_of x 0 held e))

  pub normal : (field x ≡ 0 → ⊥) → (field x ≡ 2047 → ⊥) → sqrt_of binary64 x
      ≡ nearest_root binary64 ((2 ^ 52 + digits x) * 2 ^ (field x + 1020 + 53))
  normal some under =
      let j = field x - 1 in
      let p = 2 ^ 52 + digits x in
      let is : field x ≡ suc j = omega arith in
      let l : suc j < 2047 = omega arith in
      let e : j + 1074 ≡ field x + 1020 + 53 = omega arith in
      (by_value x (sign x) (p * 2 ^ j) above (at_mid x (sign x) j (digits x) l (fields_of x (suc j) held is))).1
      ∙ ap (nearest_root binary64) (mul_assoc p (2 ^ j) (2 ^ 1074)
      ∙ ap (λ (y : ℕ). p * y) (sym (pow-add 2 j 1074) ∙ ap (λ (y : ℕ). 2 ^ y) e))

-- ---- what is not above zero

size_pos : (m : ℕ) (e : ℤ) → 0 < suc m * up e
size_pos m e = mul-pos (zero-lt-suc m) (up_pos e)

pub of_zero : (x : Float) → eq x (fin false 0 (pos 0)) ≡ true → x ≡ sqrt_of binary64 x
unfolding eq sqrt_of
of_zero nan h = absurd (false≢true h)
of_zero (inf s) h = absurd (false≢true h)
of_zero (fin s zero e) h = refl
of_zero (fin s (suc m) e) h =
    let a = suc m * up e * 1 in
    let b = 0 * 1 * down e in
    let same : a ≡ b = eqb→eq a b (and_l (eqb a b) (beq s false || eqb a 0) (subst T (sym h) tt)) in
    let some = size_pos m e in
    absurd (omega arith)

zero_equals : (s : Bool) (e : ℤ) → eq (fin s zero e) (fin false 0 (pos 0)) ≡ true
unfolding eq
zero_equals true e = simp zero-mul
zero_equals false e = simp zero-mul

pub of_none : (x : Float) → lt (fin false 0 (pos 0)) x ≡ false → eq x (fin false 0 (pos 0)) ≡ false → nan
    ≡ sqrt_of binary64 x
unfolding lt sqrt_of
of_none nan h g = refl
of_none (inf true) h g = refl
of_none (inf false) h g = absurd (true≢false h)
of_none (fin s zero e) h g = absurd (false≢true (sym g ∙ zero_equals s e))
of_none (fin true (suc m) e) h g = refl
of_none (fin false (suc m) e) h g =
    let none = ltb-false (0 * 1 * down e) (suc m * up e * 1) h in
    let some = size_pos m e in
    absurd (omega arith)
