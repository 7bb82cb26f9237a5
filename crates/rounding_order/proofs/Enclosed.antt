-- A number whose rounded square is above v is not below the root of v, and one whose rounded square is below v is not
-- above it. Assumes nothing.
use mathlib.Core.Path.{◌≡◌, refl, sym, ap, ◌∙◌}
use mathlib.Core.Bool.{Bool, true, false, true≢false}
use Prim.Native.Nat.{ℕ, zero, suc, ◌+◌, ◌*◌, ◌^◌, ◌<◌, ◌≤◌, zero-le}
use native.Mathlib.Nat.{mul-pos, mul_assoc, mul-le-mul_right, le_of_lt}
use native.Mathlib.Omega.{arith}
use borrow.Author.Tests.{ltb-true, ltb-false, le-ltb}
use lib.Dec.{T}
use lib.IntN.{ℤ}
use lib.Pow.{pow_pos}
use lib.Ieee.{Float, nan, inf, fin, binary64, up, down, unlike, round, mul, lt, is_nan, fits}
use lib.Ieee.{below as is_below}
use lib.Ieee.Exact.{HasValue, round_exact}
use lib.Ieee.Order.{round_mono}
use lib.Ieee.Positive.{positive, positive-finite}
use Rattle.rounding_laws.proofs.Value.{mul_at, lt_at}
use Rattle.rounding.specs.Nearest.{in_units, Number}
use Rattle.rounding_laws.proofs.Multiples.{made_some}
use Rattle.rounding_laws.proofs.Units.{worth}
use Rattle.rounding.specs.Leaves.{negative}
use Rattle.rounding.proofs.Signs.{finite_number, round_plain}
use Rattle.extremes.proofs.Order.{lt_between}
use Rattle.cells.specs.Line.{plus_zero}
use Rattle.rounding_root.specs.Root.{sqrt_of}
use Rattle.rounding_root.proofs.Squares.{square_le}
use Rattle.rounding_root.specs.Meaning.{Nearer, NearestRoot}
use Rattle.rounding_root.proofs.Meaning.{nearest_root_lem}
use Rattle.rounding_order.proofs.Rounded.{not_below}
use Rattle.rounding_order.proofs.Outward.{product_above, no_parts}

-- x is a number, not below 0, and y is not below x; y may be infinite, or a NaN
pub record Widths (x y : Float) : Type 0 where
  pub from_zero : lt x plus_zero ≡ false
  pub number : is_nan x ≡ false
  pub order : lt y x ≡ false

pub neither_way : (p : Bool) → (p ≡ true → ⊥) → p ≡ false
neither_way false h = refl
neither_way true h = absurd (h refl)

-- ---- in units of the smallest number

-- √n is nearer to r than to t: so t * t is below n where t is below r, and above n where t is above r
under_root : (n r t : ℕ) → Nearer n r t → t < r → t * t < n
under_root n r t near l =
    let more : (t + t) * (t + t) ≤ (r + t) * (r + t) = square_le (omega arith) in
    let double : (t + t) * (t + t) ≡ 4 * (t * t) = omega arith in
    omega (arith, near.above_middle l)

over_root : (n r t : ℕ) → Nearer n r t → r < t → n < t * t
over_root n r t near l =
    let more : (r + t) * (r + t) ≤ (t + t) * (t + t) = square_le (omega arith) in
    let double : (t + t) * (t + t) ≡ 4 * (t * t) = omega arith in
    omega (arith, near.below_middle l)

positive_sign : (x : Float) → T (positive x) → negative x ≡ false
unfolding negative
positive_sign nan p = absurd p
positive_sign (inf s) p = absurd p
positive_sign (fin true m e) p = absurd p
positive_sign (fin false m e) p = refl

same_sign : (s : Bool) → unlike s s ≡ false
same_sign true = refl
same_sign false = refl

-- the order of a t from 0 up and a number above 0, as that of their sizes
smaller : (s : Bool) (a b : ℕ) → is_below s a false 0 ≡ false → is_below s a false b ≡ true → a < b
smaller false a b p h = ltb-true a b h
smaller true a b p h = let l = ltb-false 0 (a + 0) p in let k = ltb-true 0 (a + b) h in omega arith

larger : (s : Bool) (a b : ℕ) → is_below false b s a ≡ true → b < a
larger false a b h = ltb-true b a h
larger true a b h = absurd (true≢false (sym h))

-- ---- a number v of the format above 0, and a number t of the format from 0 up

module _ (m : ℕ) (e : ℤ) (F : T (fits binary64 (fin false (suc m) e))) where
  v_number : Number binary64 (fin false (suc m) e)
  v_number = record { fit = F; ends = tt }

  v_value : HasValue (fin false (suc m) e) false (in_units binary64 (fin false (suc m) e)) (2 ^ 1074)
  unfolding negative
  v_value = (worth (fin false (suc m) e) v_number).value

  -- v rounds to v
  rounded : HasValue (round binary64 false (in_units binary64 (fin false (suc m) e)) (2 ^ 1074)) false
      (in_units binary64 (fin false (suc m) e)) (2 ^ 1074)
  rounded =
      let a = made_some binary64 false m e F in
      let u = in_units binary64 (fin false (suc m) e) in
      round_exact binary64 false u (2 ^ 1074) (suc m) a.j (pow_pos 1074) a.short a.under
      (ap (λ (x : ℕ). x * 2 ^ 1074) a.is)

  root_nearest : NearestRoot binary64 (fin false (suc m) e) (sqrt_of binary64 (fin false (suc m) e))
  root_nearest = nearest_root_lem binary64 m e F

  root_number : Number binary64 (sqrt_of binary64 (fin false (suc m) e))
  root_number =
      record {
        fit = root_nearest.held;
        ends = positive-finite (sqrt_of binary64 (fin false (suc m) e))
            root_nearest.above_zero;
      }

  root_value : HasValue (sqrt_of binary64 (fin false (suc m) e)) false
      (in_units binary64 (sqrt_of binary64 (fin false (suc m) e))) (2 ^ 1074)
  root_value =
      let r = sqrt_of binary64 (fin false (suc m) e) in
      rw (positive_sign r root_nearest.above_zero) at (worth r root_number).value

  -- what is not below v's fraction, rounded, is not below v; and what is not above it is not above v
  over_v : (x : Float) → lt (round binary64 false (in_units binary64 (fin false (suc m) e)) (2 ^ 1074)) x ≡ false
      → lt (fin false (suc m) e) x ≡ false
  over_v x h =
      let v = fin false (suc m) e in
      let u = in_units binary64 v in
      let w = round binary64 false u (2 ^ 1074) in
      lt_between false v w x (round_plain false u (2 ^ 1074)).1
      (lt_at v w false u false u (2 ^ 1074) (pow_pos 1074) v_value rounded ∙ le-ltb u u (omega arith))
      h

  under_v : (x : Float) → lt x (round binary64 false (in_units binary64 (fin false (suc m) e)) (2 ^ 1074)) ≡ false
      → lt x (fin false (suc m) e) ≡ false
  under_v x h =
      let v = fin false (suc m) e in
      let u = in_units binary64 v in
      let w = round binary64 false u (2 ^ 1074) in
      lt_between false x w v (round_plain false u (2 ^ 1074)).1 h
      (lt_at w v false u false u (2 ^ 1074) (pow_pos 1074) rounded v_value ∙ le-ltb u u (omega arith))

  module _ (t : Float) (N : Number binary64 t) (P : lt t plus_zero ≡ false) where
    t_value : HasValue t (negative t) (in_units binary64 t) (2 ^ 1074)
    t_value = (worth t N).value

    t_sign : is_below (negative t) (in_units binary64 t) false 0 ≡ false
    t_sign =
        sym (lt_at t plus_zero (negative t) (in_units binary64 t) false 0 (2 ^ 1074) (pow_pos 1074) t_value
        (refl, refl)) ∙ P

    square_is : mul binary64 t t ≡ round binary64 false (in_units binary64 t * in_units binary64 t)
        (2 ^ 1074 * 2 ^ 1074)
    square_is =
        let u = in_units binary64 t in
        let s = negative t in
        mul_at t t s u (2 ^ 1074) s u (2 ^ 1074) (pow_pos 1074) (pow_pos 1074) t_value t_value binary64
        ∙ rw (same_sign s)

    near : Nearer (in_units binary64 (fin false (suc m) e) * 2 ^ 1074)
        (in_units binary64 (sqrt_of binary64 (fin false (suc m) e))) (in_units binary64 t)
    near = root_nearest.nearer t N.fit N.ends

    above_at : lt (fin false (suc m) e) (mul binary64 t t) ≡ true
        → lt t (sqrt_of binary64 (fin false (suc m) e)) ≡ false
    above_at h = neither_way _ (λ z. true≢false (sym h ∙ over_v (mul binary64 t t) (less z)))
      where
        less : lt t (sqrt_of binary64 (fin false (suc m) e)) ≡ true
            → lt (round binary64 false (in_units binary64 (fin false (suc m) e)) (2 ^ 1074)) (mul binary64 t t) ≡ false
        less z =
            let r = sqrt_of binary64 (fin false (suc m) e) in
            let a = in_units binary64 t in
            let b = in_units binary64 r in
            let u = in_units binary64 (fin false (suc m) e) in
            let order = sym (lt_at t r (negative t) a false b (2 ^ 1074) (pow_pos 1074) t_value root_value) ∙ z in
            let few = under_root (u * 2 ^ 1074) b a near (smaller (negative t) a b t_sign order) in
            rw square_is
            (not_below _ _
            (round_mono binary64 (a * a) (2 ^ 1074 * 2 ^ 1074) u (2 ^ 1074) (mul-pos (pow_pos 1074) (pow_pos 1074))
            (pow_pos 1074)
            (rw (← mul_assoc u (2 ^ 1074) (2 ^ 1074)) (mul-le-mul_right (2 ^ 1074) (le_of_lt few)))))

    below_at : lt (mul binary64 t t) (fin false (suc m) e) ≡ true
        → lt (sqrt_of binary64 (fin false (suc m) e)) t ≡ false
    below_at h = neither_way _ (λ z. true≢false (sym h ∙ under_v (mul binary64 t t) (more z)))
      where
        more : lt (sqrt_of binary64 (fin false (suc m) e)) t ≡ true
            → lt (mul binary64 t t) (round binary64 false (in_units binary64 (fin false (suc m) e)) (2 ^ 1074)) ≡ false
        more z =
            let r = sqrt_of binary64 (fin false (suc m) e) in
            let a = in_units binary64 t in
            let b = in_units binary64 r in
            let u = in_units binary64 (fin false (suc m) e) in
            let order = sym (lt_at r t false b (negative t) a (2 ^ 1074) (pow_pos 1074) root_value t_value) ∙ z in
            let many = over_root (u * 2 ^ 1074) b a near (larger (negative t) a b order) in
            rw square_is
            (not_below _ _
            (round_mono binary64 u (2 ^ 1074) (a * a) (2 ^ 1074 * 2 ^ 1074) (pow_pos 1074)
            (mul-pos (pow_pos 1074) (pow_pos 1074))
            (rw (← mul_assoc u (2 ^ 1074) (2 ^ 1074)) (mul-le-mul_right (2 ^ 1074) (le_of_lt many)))))

  root_from_zero : lt (sqrt_of binary64 (fin false (suc m) e)) plus_zero ≡ false
  root_from_zero =
      let r = sqrt_of binary64 (fin false (suc m) e) in
      let b = in_units binary64 r in
      lt_at r plus_zero false b false 0 (2 ^ 1074) (pow_pos 1074) root_value (refl, refl) ∙ le-ltb b 0 zero-le

-- ---- every float

-- nothing is above infinity, and nothing below the other one; a NaN is neither
none_above : (x : Float) → lt (inf false) x ≡ false
unfolding lt
none_above nan = refl
none_above (inf s) = refl
none_above (fin s m e) = refl

none_below : (x : Float) → (lt x nan ≡ false) × (lt x (inf true) ≡ false)
unfolding lt
none_below nan = (refl, refl)
none_below (inf true) = (refl, refl)
none_below (inf false) = (refl, refl)
none_below (fin s m e) = (refl, refl)

zero_not_below : (s : Bool) (e : ℤ) → lt plus_zero (fin s zero e) ≡ false
unfolding lt
zero_not_below true e = refl
zero_not_below false e = le-ltb (0 * 1 * down e) (0 * up e * 1) (omega arith)

square_number : (t v : Float) → lt (mul binary64 t t) v ≡ true → is_nan t ≡ false
unfolding mul lt is_nan
square_number nan v h = sym h
square_number (inf s) v h = refl
square_number (fin s m e) v h = refl

-- the root of v is at most a t from 0 up whose square, as computed, is above v
pub root_under : (v t : Float) → T (fits binary64 v) → T (fits binary64 t) → lt v plus_zero ≡ false → lt t plus_zero
    ≡ false
    → lt v (mul binary64 t t) ≡ true
    → Widths (sqrt_of binary64 v) t
unfolding sqrt_of mul lt is_nan
root_under nan t F G Q P h = absurd (true≢false (sym h))
root_under (inf true) t F G Q P h = absurd (true≢false Q)
root_under (inf false) t F G Q P h = absurd (true≢false (sym h ∙ none_above (mul binary64 t t)))
root_under (fin s zero e) t F G Q P h = record {
  from_zero = Q;
  number = refl;
  order = lt_between false t plus_zero (fin s zero e) refl P (zero_not_below s e);
}
root_under (fin true (suc m) e) t F G Q P h = let none = no_parts (suc m) e Q in absurd (omega arith)
root_under (fin false (suc m) e) nan F G Q P h = absurd (true≢false (sym h))
root_under (fin false (suc m) e) (inf true) F G Q P h = absurd (true≢false P)
root_under (fin false (suc m) e) (inf false) F G Q P h = record {
  from_zero = root_from_zero m e F;
  number = finite_number (sqrt_of binary64 (fin false (suc m) e)) (root_number m e F).ends;
  order = none_above (sqrt_of binary64 (fin false (suc m) e));
}
root_under (fin false (suc m) e) (fin s n d) F G Q P h = record {
  from_zero = root_from_zero m e F;
  number = finite_number (sqrt_of binary64 (fin false (suc m) e)) (root_number m e F).ends;
  order = above_at m e F (fin s n d) (record { fit = G; ends = tt }) P h;
}

not_over : (v t : Float) → T (fits binary64 v) → T (fits binary64 t) → lt t plus_zero ≡ false → lt (mul binary64 t t) v
    ≡ true
    → lt (sqrt_of binary64 v) t ≡ false
unfolding sqrt_of mul lt is_nan
not_over nan t F G P h = absurd (true≢false (sym h ∙ (none_below (mul binary64 t t)).0))
not_over (inf true) t F G P h = absurd (true≢false (sym h ∙ (none_below (mul binary64 t t)).1))
not_over (inf false) t F G P h = none_above t
not_over (fin s zero e) t F G P h =
    absurd (true≢false
    (sym h ∙ lt_between false (mul binary64 t t) plus_zero (fin s zero e) refl (product_above t t P P)
    (zero_not_below s e)))
not_over (fin true (suc m) e) t F G P h =
    absurd (true≢false
    (sym h ∙ lt_between false (mul binary64 t t) plus_zero (fin true (suc m) e) refl (product_above t t P P) refl))
not_over (fin false (suc m) e) nan F G P h = absurd (true≢false (sym h))
not_over (fin false (suc m) e) (inf true) F G P h = absurd (true≢false P)
not_over (fin false (suc m) e) (inf false) F G P h = absurd (true≢false (sym h))
not_over (fin false (suc m) e) (fin s n d) F G P h = below_at m e F (fin s n d) (record { fit = G; ends = tt }) P h

-- a t from 0 up whose square, as computed, is below v is at most the root of v
pub root_over : (v t : Float) → T (fits binary64 v) → T (fits binary64 t) → lt t plus_zero ≡ false
    → lt (mul binary64 t t) v ≡ true
    → Widths t (sqrt_of binary64 v)
root_over v t F G P h = record { from_zero = P; number = square_number t v h; order = not_over v t F G P h }
