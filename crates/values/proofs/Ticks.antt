-- Why the test of a whole tick is right: a number's magnitude is whole if it equals its whole part. Assumes nothing.
use Rattle.std.proofs.Common.{◌≡◌, ℕ, zero, suc, ◌+◌, ◌-◌, ◌*◌, ◌/◌, ◌%◌, ◌^◌, ◌<◌, ◌≤◌, min, Bool, true, false, cond, not, ◌&&◌, ◌||◌, T, eqb, ltb, leb, ℤ, pos, negsuc, neg_ℤ, nat_abs, sym, refl, ap, ◌∙◌, mul-pos, div-add-mod', zero-mul, mul-one, mul_right_comm, le_of_mul-le-mul_right, arith, le→leb, pow_pos, ltb-true, lt-ltb, eq-eqb, ne_eqb, eqb-true, le-leb}
use mathlib.Core.Bool.{beq}
use native.Mathlib.Nat.{eq_of_mul-eq-mul_right}
use borrow.Author.Tests.{eqb-false}
use lib.Dec.{eqb-suc-zero}
use lib.Ieee.{
  Float,
  nan,
  inf,
  fin,
  binary64,
  up,
  down,
  lt,
  eq,
  le,
  of_int,
  to_unsigned,
  to_signed,
  whole,
  in_signed,
  in_float,
}
use lib.Ieee.Casts.{to_signed_cut}
use lib.Ieee.Exact.{HasValue}
use lib.Ieee.Back.{round_whole}
use lib.Ieee.Fits.{down_pos}
use Rattle.rounding.specs.Leaves.{sign_of, magnitude_of}
use Rattle.values.specs.Accepted.{within, tick}
use Rattle.values.proofs.All.{and_true, and_parts}
use Rattle.cells.specs.Line.{plus_zero}

or_true : (t : Bool) → t || true ≡ true
or_true true = refl
or_true false = refl

pub eqb_iff : (a b c d : ℕ) → (a ≡ b → c ≡ d) → (c ≡ d → a ≡ b) → eqb a b ≡ eqb c d
eqb_iff a b c d f g = go (eqb c d) refl
  where
    go : (t : Bool) → eqb c d ≡ t → eqb a b ≡ t
    go true e = eq-eqb a b (g (eqb-true c d e))
    go false e = ne_eqb a b (λ p. eqb-false c d e (f p))

-- ---- the whole part of m * 2 ^ e

abbrev cut : ℕ → ℤ → ℕ
cut m e = m * up e / down e

-- the whole part and the number, with a common factor, are equal exactly if there is no rest
no_rest : (m d c : ℕ) → 0 < c → eqb (m / d * c * d) (m * c) ≡ eqb (m % d) 0
no_rest m d c p =
    let parts = div-add-mod' m d in
    eqb_iff (m / d * c * d) (m * c) (m % d) 0
    (λ e. let f : m / d * d ≡ m = eq_of_mul-eq-mul_right c p (m / d * d) m (mul_right_comm (m / d) d c ∙ e) in omega
    arith)
    (λ e. let f : m / d * d ≡ m = omega arith in mul_right_comm (m / d) c d ∙ ap (λ (x : ℕ). x * c) f)

same_whole : (m : ℕ) (e : ℤ) → cut m e ≤ 2 ^ 53 → eq (of_int binary64 (pos (cut m e))) (fin false m e)
    ≡ eqb (m * up e % down e) 0
unfolding eq of_int
same_whole m e h = go (of_int binary64 (pos (cut m e))) (round_whole binary64 false (cut m e) h)
  where
    go : (y : Float) → HasValue y false (cut m e) 1 → eq y (fin false m e) ≡ eqb (m * up e % down e) 0
    go nan v = absurd v
    go (inf t) v = absurd v
    go (fin t n d) v =
        let size : n * up d ≡ cut m e * down d = sym (mul-one (n * up d)) ∙ v.1 in
        rw (v.0, size, and_true) (no_rest (m * up e) (down e) (down d) (down_pos d))

-- ---- a number within 2 ^ 24

pub at_most : (a b : ℕ) (u : Bool) → ltb a b || (eqb a b && u) ≡ true → a ≤ b
at_most a b u = go (ltb a b) (eqb a b) refl refl
  where
    go : (t v : Bool) → ltb a b ≡ t → eqb a b ≡ v → t || (v && u) ≡ true → a ≤ b
    go true v p q e = let l = ltb-true a b p in omega arith
    go false true p q e = let l = eqb-true a b q in omega arith
    go false false p q e = let z : ◌≡◌ {A = ℕ} 0 1 = cc in absurd (omega arith)

pub small : (m : ℕ) (e : ℤ) → le (fin false m e) (fin false 1 (pos 24)) ≡ true → m * up e ≤ 2 ^ 24 * down e
unfolding le lt eq
small m e q = let l = at_most (m * up e * 1) (2 ^ 24 * down e) _ q in omega arith

cut_small : (m : ℕ) (e : ℤ) → m * up e ≤ 2 ^ 24 * down e → cut m e ≤ 2 ^ 24
cut_small m e h =
    le_of_mul-le-mul_right {m = cut m e} {n = 2 ^ 24} {k = down e}
    (let l = div-add-mod' (m * up e) (down e) in omega arith) (down_pos e)

eqb_sym : (a b : ℕ) → eqb a b ≡ eqb b a
eqb_sym a b = eqb_iff a b b a sym sym

-- the magnitude says whether a number lies within
size_within : (x : Float) → le (magnitude_of x) (fin false 1 (pos 24)) ≡ within 24 x
unfolding le lt eq magnitude_of
size_within nan = refl
size_within (inf true) = refl
size_within (inf false) = refl
size_within (fin false m e) = rw (lt-ltb 0 (2 ^ 24 * down e + m * up e * 1) (let p = down_pos e in omega arith))
size_within (fin true m e) =
    rw (
      eqb_sym (m * up e * 1) (2 ^ 24 * down e),
      lt-ltb 0 (m * up e * 1 + 2 ^ 24 * down e) (let p = down_pos e in omega arith),
    )
    (sym (and_true _))

-- ---- zeros

up_pos : (e : ℤ) → 0 < up e
up_pos (pos k) = pow_pos k
up_pos (negsuc k) = omega arith

no_digits : (m : ℕ) (e : ℤ) → eqb m 0 ≡ eqb (m * up e * 1) 0
no_digits zero e = rw zero-mul
no_digits (suc m) e =
    let some = mul-pos {m = suc m} {n = up e} (omega arith) (up_pos e) in
    rw (eqb-suc-zero m) (sym (ne_eqb (suc m * up e * 1) 0 (λ z. omega arith)))

pub is_zero : (s : Bool) (m : ℕ) (e : ℤ) → eqb m 0 ≡ eq (fin s m e) plus_zero
unfolding eq
is_zero s m e = rw (zero-mul, no_digits m e) (go (eqb (m * up e * 1) 0) (beq s false))
  where
    go : (t u : Bool) → t ≡ t && (u || t)
    go true u = sym (or_true u)
    go false u = refl

zero_sign : (s : Bool) (m : ℕ) (e : ℤ) → not (s && true) ≡ lt plus_zero (sign_of (fin s m e))
unfolding lt sign_of
zero_sign true m e = refl
zero_sign false m e = refl

pub any_sign : (s : Bool) → not (s && false) ≡ true
any_sign true = refl
any_sign false = refl

pub in_float_lem : (q : ℕ) → q ≤ 2 ^ 53 → T (in_float binary64 (pos q))
unfolding in_float
in_float_lem q h = le→leb q (2 ^ 53) h

-- ---- the test

-- What the test meets at a number within 2 ^ 24: its whole part can be taken and turned back, and it is a tick if
-- that is equal to the magnitude, and the number is not -0.0.
pub record TickTests (x : Float) : Type 0 where
  pub low : T (lt (fin true 1 (pos 0)) (magnitude_of x))
  pub high : T (lt (magnitude_of x) (fin false 1 (pos 64)))
  pub back : T (in_float binary64 (pos (to_unsigned 64 (magnitude_of x))))
  pub broken : eq (of_int binary64 (pos (to_unsigned 64 (magnitude_of x)))) (magnitude_of x) ≡ false → tick x ≡ false
  pub zeros : eq (of_int binary64 (pos (to_unsigned 64 (magnitude_of x)))) (magnitude_of x) ≡ true
      → eq x plus_zero ≡ true
      → tick x ≡ lt plus_zero (sign_of x)
  pub kept : eq (of_int binary64 (pos (to_unsigned 64 (magnitude_of x)))) (magnitude_of x) ≡ true
      → eq x plus_zero ≡ false
      → tick x ≡ true

module _ (s : Bool) (m : ℕ) (e : ℤ) (w : le (fin false m e) (fin false 1 (pos 24)) ≡ true) where
  near : cut m e ≤ 2 ^ 24
  near = cut_small m e (small m e w)

  part : to_unsigned 64 (fin false m e) ≡ cut m e
  unfolding to_unsigned
  part = let h = near in let l : min (cut m e) (2 ^ 64 - 1) ≡ cut m e = omega arith in l

  again : eq (of_int binary64 (pos (to_unsigned 64 (fin false m e)))) (fin false m e) ≡ eqb (m * up e % down e) 0
  again = let h = near in rw part (same_whole m e (omega arith))

  pub tick_is : (t u : Bool) → eqb (m * up e % down e) 0 ≡ t → eqb m 0 ≡ u → tick (fin s m e) ≡ (t && not (s && u))
  unfolding tick whole magnitude_of
  tick_is t u p q =
      let h = near in
      rw (← size_within (fin s m e), w, p, q, le-leb (cut m e) (2 ^ 53) (omega arith), and_true t)

-- without a sign it is a tick if it is whole
pub tick_rest : (m : ℕ) (e : ℤ) → le (fin false m e) (fin false 1 (pos 24)) ≡ true → tick (fin false m e)
    ≡ eqb (m * up e % down e) 0
tick_rest m e w = tick_is false m e w _ _ refl refl ∙ and_true (eqb (m * up e % down e) 0)

pub tick_tests : (x : Float) → le (magnitude_of x) (fin false 1 (pos 24)) ≡ true → TickTests x
unfolding le lt eq magnitude_of
tick_tests nan w = let z : ◌≡◌ {A = ℕ} 0 1 = cc in absurd (omega arith)
tick_tests (inf s) w = let z : ◌≡◌ {A = ℕ} 0 1 = cc in absurd (omega arith)
tick_tests (fin s m e) w =
    let size = small m e w in
    let h = near s m e w in
    let same = again s m e w in
    let is = tick_is s m e w in
    record {
      low = rw (lt-ltb 0 (1 * down e + m * up e * 1) (let p = down_pos e in omega arith)) tt;
      high = rw (lt-ltb (m * up e * 1) (2 ^ 64 * down e) (let p = down_pos e in omega arith)) tt;
      back = rw (part s m e w) (in_float_lem (cut m e) (omega arith));
      broken = λ f. is false (eqb m 0) (sym same ∙ f) refl;
      zeros = λ f z. is true true (sym same ∙ f) (is_zero s m e ∙ z) ∙ zero_sign s m e;
      kept = λ f z. is true false (sym same ∙ f) (is_zero s m e ∙ z) ∙ any_sign s;
    }

-- a number that does not lie within is no tick
pub too_far : (x : Float) → le (magnitude_of x) (fin false 1 (pos 24)) ≡ false → tick x ≡ false
unfolding tick
too_far x e = rw (← size_within x, e)

-- ---- what is known of a whole tick

-- it is an i64, of magnitude at most 2 ^ 24
pub record Ticked (x : Float) : Type 0 where
  pub castable : T (in_signed binary64 63 x)
  pub near : nat_abs (to_signed 63 x) ≤ 2 ^ 24

size_signed : (s : Bool) (q : ℕ) → nat_abs (cond s (neg_ℤ (pos q)) (pos q)) ≡ q
size_signed true zero = refl
size_signed true (suc q) = refl
size_signed false q = refl

below_either : (s : Bool) (q : ℕ) → q ≤ 2 ^ 24 → cond s (leb q (2 ^ 63)) (ltb q (2 ^ 63)) ≡ true
below_either true q h = le-leb q (2 ^ 63) (omega arith)
below_either false q h = lt-ltb q (2 ^ 63) (omega arith)

pub ticked : (x : Float) → tick x ≡ true → Ticked x
unfolding tick in_signed whole magnitude_of
ticked nan e =
    let broken = (and_parts (within 24 nan) false e).1 in let z : ◌≡◌ {A = ℕ} 0 1 = cc in absurd (omega arith)
ticked (inf s) e = let broken = (and_parts (within 24 (inf s)) false e).1 in let z : ◌≡◌ {A = ℕ} 0 1 = cc in absurd
    (omega arith)
ticked (fin s m e) t =
    let parts = and_parts (within 24 (fin s m e)) _ t in
    let h = near s m e (size_within (fin s m e) ∙ parts.0) in
    let castable : T (in_signed binary64 63 (fin s m e)) = rw (parts.1, below_either s (cut m e) h) tt in
    record { castable = castable; near = rw (to_signed_cut binary64 63 s m e castable, size_signed s (cut m e)) h }
