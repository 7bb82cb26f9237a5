-- Of all numbers only -0.0 has the bits of -0.0, and a number is a tick if its magnitude is one and it is not -0.0.
-- Assumes nothing.
use Rattle.std.proofs.Common.{◌≡◌, ℕ, zero, suc, ◌*◌, ◌^◌, ◌<◌, Bool, true, false, not, ◌&&◌, T, eqb, ℤ, pos, sym, refl, ap, ◌∙◌, true≢false, zero-lt-suc, mul-pos, zero-mul, arith, ne_eqb, eqb-true}
use native.Mathlib.Nat.{zero-div}
use lib.Ieee.{Float, nan, inf, fin, binary64, up, down, lt, eq, le, fits, of_bits, to_bits}
use lib.Ieee.Bits.{of_bits-to_bits}
use lib.Ieee.Fits.{up_pos}
use Rattle.rounding.specs.Leaves.{magnitude_of}
use Rattle.cells.specs.Line.{plus_zero}
use Rattle.values.specs.Accepted.{tick}
use Rattle.values.proofs.All.{and_parts}
use Rattle.values.proofs.Ticks.{tick_is, tick_rest, too_far, is_zero, any_sign}

not_both : (n d : ℕ) → 0 < n → n * 1 ≡ 0 * 1 * d → ⊥
not_both n d h e = omega arith

-- a number equal to 0 is one of the two zeros
pub of_zero : (x : Float) → T (fits binary64 x) → eq x plus_zero ≡ true → eqb (to_bits binary64 x) 0
    ≡ not (eqb (to_bits binary64 x) (2 ^ 63))
unfolding eq
of_zero nan f e = absurd (true≢false (sym e))
of_zero (inf s) f e = absurd (true≢false (sym e))
of_zero (fin false zero d) f e = unfold to_bits in rw (zero-mul (up d), zero-mul (2 ^ 1074), zero-div (down d))
of_zero (fin true zero d) f e = unfold to_bits in rw (zero-mul (up d), zero-mul (2 ^ 1074), zero-div (down d))
of_zero (fin s (suc m) d) f e =
    let some : 0 < suc m * up d = mul-pos (zero-lt-suc m) (up_pos d) in
    let none : suc m * up d * 1 ≡ 0 * 1 * down d = eqb-true _ _ (and_parts _ _ e).0 in
    absurd (not_both (suc m * up d) (down d) some none)

closed : eq (of_bits binary64 (2 ^ 63)) plus_zero ≡ true
unfolding eq of_bits
closed = refl

-- the bits of -0.0 are those of a number equal to 0
pub of_other : (x : Float) → T (fits binary64 x) → eq x plus_zero ≡ false
    → true ≡ not (eqb (to_bits binary64 x) (2 ^ 63))
of_other x f e = go (eqb (to_bits binary64 x) (2 ^ 63)) refl
  where
    is : to_bits binary64 x ≡ 2 ^ 63 → eq x plus_zero ≡ true
    is h = ap (λ (y : Float). eq y plus_zero) (sym (of_bits-to_bits binary64 x f) ∙ ap (of_bits binary64) h) ∙ closed

    go : (t : Bool) → eqb (to_bits binary64 x) (2 ^ 63) ≡ t → true ≡ not t
    go false h = refl
    go true h = absurd (true≢false (sym (is (eqb-true _ _ h)) ∙ e))

-- -0.0 by its sign and digits
minus_zero_lem : (s : Bool) (m : ℕ) (e : ℤ) → T (fits binary64 (fin s m e))
    → not (eqb (to_bits binary64 (fin s m e)) (2 ^ 63)) ≡ not (s && eqb m 0)
minus_zero_lem false zero e f = unfold to_bits in rw (zero-mul (up e), zero-mul (2 ^ 1074), zero-div (down e))
minus_zero_lem true zero e f = unfold to_bits in rw (zero-mul (up e), zero-mul (2 ^ 1074), zero-div (down e))
minus_zero_lem s (suc m) e f =
    let some : eqb (suc m) 0 ≡ false = ne_eqb (suc m) 0 (λ e. omega arith) in
    rw some (sym (of_other (fin s (suc m) e) f (sym (is_zero s (suc m) e) ∙ some)) ∙ sym (any_sign s))

pub tick_parts : (x : Float) → T (fits binary64 x) → tick x
    ≡ tick (magnitude_of x) && not (eqb (to_bits binary64 x) (2 ^ 63))
unfolding magnitude_of
tick_parts nan f = rw (too_far nan (unfold le lt eq in refl))
tick_parts (inf s) f = rw (too_far (inf s) (unfold le lt eq in refl), too_far (inf false) (unfold le lt eq in refl))
tick_parts (fin s m e) f = go (le (fin false m e) (fin false 1 (pos 24))) refl
  where
    go : (t : Bool) → le (fin false m e) (fin false 1 (pos 24)) ≡ t
        → tick (fin s m e) ≡ tick (fin false m e) && not (eqb (to_bits binary64 (fin s m e)) (2 ^ 63))
    go true w = rw (tick_is s m e w _ _ refl refl, tick_rest m e w, minus_zero_lem s m e f)
    go false w = rw (too_far (fin s m e) w, too_far (fin false m e) w)
