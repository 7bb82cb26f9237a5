-- What an approximate average decides: a difference that is larger than the margin has the sign of the exact one.
-- Assumes nothing.
use mathlib.Core.Path.{◌≡◌, refl, sym, ap, ◌∙◌}
use mathlib.Core.Bool.{true, false}
use Prim.Native.Nat.{ℕ, zero, suc, ◌+◌, ◌*◌, ◌^◌, ◌<◌, ◌≤◌}
use native.Mathlib.Nat.{le_refl}
use native.Mathlib.Omega.{arith}
use borrow.Author.Tests.{ne_eqb}
use lib.IntN.{ℤ, pos, negsuc, nat_abs, ◌-ℤ◌}
use lib.Ieee.{Float, nan, inf, fin, binary64, sub, lt, eq, fits}
use Rattle.rounding.specs.Leaves.{one, negative, magnitude_of, sign_of}
use Rattle.rounding.specs.Nearest.{in_units, signed_units, Number}
use Rattle.rounding.specs.Whole.{is_negative}
use Rattle.rounding_laws.proofs.Integers.{above, below, Near, near_abs, abs_same, abs_minus, parts_minus, parts_less}
use Rattle.rounding_laws.proofs.Value.{not_zero}
use Rattle.rounding_laws.proofs.Units.{worth, worth_zero, abs_units}
use Rattle.rounding_laws.proofs.About.{number_lt}
use Rattle.cells.specs.Line.{plus_zero}
use Rattle.margins.proofs.Relative.{size_by, sub_rounds, rounds_off, sub_sign, roof}

-- ---- magnitudes

pub magnitude_number : (x : Float) → Number binary64 x → Number binary64 (magnitude_of x)
unfolding magnitude_of fits
magnitude_number nan n = absurd n.ends
magnitude_number (inf s) n = absurd n.ends
magnitude_number (fin s zero e) n = record { fit = n.fit; ends = tt }
magnitude_number (fin s (suc m) e) n = record { fit = n.fit; ends = tt }

pub magnitude_units : (x : Float) → Number binary64 x → signed_units binary64 (magnitude_of x)
    ≡ pos (nat_abs (signed_units binary64 x))
unfolding magnitude_of signed_units negative
magnitude_units nan n = absurd n.ends
magnitude_units (inf s) n = absurd n.ends
magnitude_units (fin s m e) n = ap pos (sym (abs_units binary64 (fin s m e)))

-- t is a number of more than u units
pub record Margin (u : ℕ) (t : Float) : Type 0 where
  pub number : Number binary64 t
  pub wide : u < above (signed_units binary64 t)

above_only : (z : ℤ) → 0 < above z → below z ≡ 0
above_only (pos n) h = refl
above_only (negsuc n) h = absurd (omega arith)

pub beyond : {u : ℕ} {t : Float} (x : Float) → Margin u t → Number binary64 x → lt t (magnitude_of x) ≡ true
    → u < nat_abs (signed_units binary64 x)
beyond {u} {t} x m n e =
    let v = signed_units binary64 t in
    let z = nat_abs (signed_units binary64 x) in
    let w = m.wide in
    let b = above_only v (omega arith) in
    let l = parts_less v (pos z) (rw (number_lt m.number (magnitude_number x n), magnitude_units x n) at e) in
    omega arith

-- ---- signs

same_sign : (z w : ℤ) (e : ℕ) → Near (above z + below w) (above w + below z) e → e < nat_abs z
    → (is_negative z ≡ is_negative w) × (0 < nat_abs w)
same_sign (pos a) (pos b) e n h = (refl, omega arith)
same_sign (pos a) (negsuc b) e n h = absurd (omega arith)
same_sign (negsuc a) (pos b) e n h = absurd (omega arith)
same_sign (negsuc a) (negsuc b) e n h = (refl, omega arith)

-- a rounded difference is at most twice the exact one
doubled : (v z : ℤ) → nat_abs (v -ℤ z) * 2 ^ 53 ≤ nat_abs z → nat_abs v ≤ nat_abs z * 2
doubled v z h = size_by v z (near_abs v z (le_refl _)) (omega arith)

-- p stands for p' and q for q', and together they are half the margin off at most: a difference that is beyond the
-- margin has the sign of the other
pub near_signs : {u : ℕ} {t p p' q q' : Float} → Margin u t
    → Number binary64 p → Number binary64 p' → Number binary64 q → Number binary64 q'
    → (nat_abs (signed_units binary64 p -ℤ signed_units binary64 p')
    + nat_abs (signed_units binary64 q -ℤ signed_units binary64 q')) * 2 ≤ u
    → nat_abs (signed_units binary64 p) + nat_abs (signed_units binary64 q) < roof
    → lt t (magnitude_of (sub binary64 p q)) ≡ true → sign_of (sub binary64 p q) ≡ sign_of (sub binary64 p' q')
near_signs {p = p} {p'} {q} {q'} m a a' b b' h r e =
    let x = signed_units binary64 p in
    let x' = signed_units binary64 p' in
    let y = signed_units binary64 q in
    let y' = signed_units binary64 q' in
    let few = abs_minus x y in
    let o = rounds_off (sub_rounds a b) (omega arith) in
    let d = doubled (signed_units binary64 (sub binary64 p q)) (x -ℤ y) o.close in
    let far = beyond (sub binary64 p q) m o.number e in
    let i = near_abs x x' (le_refl _) in
    let j = near_abs y y' (le_refl _) in
    let k = parts_minus x y in
    let l = parts_minus x' y' in
    let g = same_sign (x -ℤ y) (x' -ℤ y') (nat_abs (x -ℤ x') + nat_abs (y -ℤ y')) (omega arith) (omega arith) in
    sub_sign a b (omega arith) ∙ ap one g.0 ∙ sym (sub_sign a' b' g.1)

-- q stands for q', and is half the margin off at most
module _ {u : ℕ} {t q q' : Float} (m : Margin u t) (b : Number binary64 q) (b' : Number binary64 q')
    (h : nat_abs (signed_units binary64 q -ℤ signed_units binary64 q') * 2 ≤ u) where
  -- a difference to p that is beyond the margin has the sign of the other
  pub near_sign : {p : Float} → Number binary64 p
      → nat_abs (signed_units binary64 p) + nat_abs (signed_units binary64 q) < roof
      → lt t (magnitude_of (sub binary64 p q)) ≡ true → sign_of (sub binary64 p q) ≡ sign_of (sub binary64 p q')
  near_sign {p} a r e =
      let x = signed_units binary64 p in
      let none = abs_same x in
      near_signs m a a b b' (omega arith) r e

  -- beyond the margin neither is 0
  pub near_some : lt t (magnitude_of q) ≡ true → (eq q plus_zero ≡ false) × (eq q' plus_zero ≡ false)
  near_some e =
      let y = signed_units binary64 q in
      let y' = signed_units binary64 q' in
      let far = beyond q m b e in
      let g = same_sign y y' (nat_abs (y -ℤ y')) (near_abs y y' (le_refl _)) (omega arith) in
      (not_null b (omega arith), not_null b' g.1)
    where
      not_null : {x : Float} → Number binary64 x → 0 < nat_abs (signed_units binary64 x) → eq x plus_zero ≡ false
      not_null {x} n h =
          let k = rw (abs_units binary64 x) at h in
          worth_zero (worth x n) ∙ ne_eqb (in_units binary64 x) 0 (not_zero (in_units binary64 x) k)
