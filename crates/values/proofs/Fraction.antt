-- Why a fraction shows beside 2 ^ 52: from there to 2 ^ 53 every number is whole, so what 2 ^ 52 was added to and
-- taken from comes back only if it is whole. Assumes nothing.
use Rattle.std.proofs.Common.{◌≡◌, ℕ, ◌+◌, ◌-◌, ◌*◌, ◌/◌, ◌%◌, ◌^◌, ◌<◌, ◌≤◌, Bool, true, false, ◌&&◌, eqb, ℤ, pos, sym, refl, ap, ◌∙◌, true≢false, le_trans, lt_of_lt_of_le, lt_of_le_of_lt, mul-le-mul_right, zero-lt-suc, mul_assoc, div-lt_iff_lt-mul, add-mul, mul-lt-mul_of_pos_right, mul-pos, lt_of_not-le, div-add-mod', le-div_iff_mul-le, mul-one, mul_right_comm, not-le_of_lt, div-one, add-sub_cancel, arith, lit<, pow_pos, pow_mono, pow-add, le-ltb}
use Prim.Native.Nat.{compare}
use native.Mathlib.Nat.{mul-mod_left, mod-one, eq_of_mul-eq-mul_right}
use lib.Ieee.{Float, nan, inf, fin, binary64, up, down, size, units, round, sum, add, sub, lt, eq, le}
use lib.Ieee.Digits.{size-lt, size-le}
use lib.Ieee.Exact.{HasValue, units_val}
use lib.Ieee.Fits.{round_is, nearest-le, down_pos}
use lib.Ieee.Nearest.{closest, closest_same, nearest-ge}
use lib.Ieee.Back.{round_whole}
use Rattle.rounding.specs.Leaves.{magnitude_of}
use Rattle.values.specs.Accepted.{tick}
use Rattle.values.proofs.All.{and_true}
use Rattle.values.specs.inner.Quick.{UpTo}
use Rattle.values.proofs.Quick.{up_to_end}
use Rattle.values.proofs.Ticks.{eqb_iff, small, tick_rest, too_far}
use Rattle.rounding_laws.proofs.Value.{sub_at}
use Rattle.values.specs.inner.Fraction.{comes_back, far}

-- ---- n / d from 2 ^ 52 to 2 ^ 53 is rounded to a whole number

size_gt : (n j : ℕ) → 2 ^ j ≤ n → j < size n
size_gt n j h = lt_of_not-le (λ (g : size n ≤ j). not-le_of_lt (lt_of_lt_of_le (size-lt n) (pow_mono g)) h)

one_size : (z t : ℕ) → 52 + t < z → z ≤ 53 + t → z - 53 ≡ t
one_size z t a b = omega arith

-- the value in units of 1
in_ones : (x : Float) (q l : ℕ) → 0 < l → HasValue x false (q * l) l → HasValue x false q 1
in_ones nan q l L v = v
in_ones (inf s) q l L v = v
in_ones (fin s m e) q l L v =
    (v.0, mul-one (m * up e) ∙ eq_of_mul-eq-mul_right l L (m * up e) (q * down e) (v.1 ∙ mul_right_comm q l (down e)))

module _ (n d : ℕ) (D : 0 < d) (low : 2 ^ 52 * d ≤ n) (high : n < 2 ^ 53 * d) where
  dropped : (t : ℕ) → size (n * 2 ^ t / d) - 53 ≡ t
  dropped t =
      let a : 2 ^ (52 + t) * d ≤ n * 2 ^ t = rw (pow-add 2 52 t, mul_right_comm (2 ^ 52) (2 ^ t) d)
      (mul-le-mul_right (2 ^ t) low) in
      let b : n * 2 ^ t < 2 ^ (53 + t) * d = rw (pow-add 2 53 t, mul_right_comm (2 ^ 53) (2 ^ t) d)
      (mul-lt-mul_of_pos_right high (pow_pos t)) in
      one_size (size (n * 2 ^ t / d)) t (size_gt (n * 2 ^ t / d) (52 + t) ((le-div_iff_mul-le D).1 a))
      (size-le (n * 2 ^ t / d) (53 + t) ((div-lt_iff_lt-mul D).1 b))

  same_closest : (t : ℕ) → closest (n * 2 ^ t) (d * 2 ^ t) ≡ closest n d
  same_closest t = closest_same (n * 2 ^ t) (d * 2 ^ t) n d (mul-pos D (pow_pos t)) D
      (mul_right_comm n (2 ^ t) d ∙ mul_assoc n d (2 ^ t))

  rounded : round binary64 false n d ≡ units binary64 false (closest n d) 1074
  rounded =
      round_is binary64 false n d
      ∙ ap (λ (k : ℕ). units binary64 false (closest (n * 2 ^ 1074) (d * 2 ^ k)) k) (dropped 1074)
      ∙ ap (λ (q : ℕ). units binary64 false q 1074) (same_closest 1074)

  closest_low : 2 ^ 52 ≤ closest n d
  closest_low = le_trans ((le-div_iff_mul-le D).1 low) (nearest-ge (n / d) (compare (n % d * 2) d))

  closest_high : closest n d ≤ 2 ^ 53
  closest_high = le_trans (nearest-le (n / d) (compare (n % d * 2) d)) ((div-lt_iff_lt-mul D).1 high)

  rounded_value : HasValue (round binary64 false n d) false (closest n d) 1
  rounded_value =
      let q = closest n d in
      let fits : q * 2 ^ 1074 < 2 ^ 2098 = lt_of_le_of_lt (mul-le-mul_right (2 ^ 1074) closest_high) (lit< tt) in
      rw rounded (in_ones (units binary64 false q 1074) q (2 ^ 1074) (pow_pos 1074)
      (units_val binary64 false q 1074 fits))

-- a / d with 2 ^ 52 added
abbrev above : ℕ → ℕ → ℕ
above a d = a + 2 ^ 52 * d

-- and what is left of it, rounded, with 2 ^ 52 taken away
abbrev left : ℕ → ℕ → ℕ
left a d = closest (above a d) d - 2 ^ 52

-- a whole number is closest to itself
closest_whole : (k d : ℕ) → 0 < d → closest (k * d) d ≡ k
closest_whole k d D = closest_same (k * d) d k 1 D (zero-lt-suc 0) (mul-one (k * d)) ∙ rw (div-one k, mod-one k)

left_whole : (a d : ℕ) → 0 < d → a % d ≡ 0 → left a d * d ≡ a
left_whole a d D e =
    let parts : a / d * d + a % d ≡ a = div-add-mod' a d in
    let whole : above a d ≡ (a / d + 2 ^ 52) * d = rw (add-mul (a / d) (2 ^ 52) d) (omega arith) in
    let is : left a d ≡ a / d =
    ap (λ (k : ℕ). closest k d - 2 ^ 52) whole ∙ ap (λ (k : ℕ). k - 2 ^ 52) (closest_whole (a / d + 2 ^ 52) d D)
    ∙ add-sub_cancel (a / d) (2 ^ 52) in
    rw is (omega arith)

-- with a common factor
left_is : (a d c : ℕ) → 0 < d → 0 < c → eqb (left a d * c * d) (a * c) ≡ eqb (a % d) 0
left_is a d c D C =
    eqb_iff (left a d * c * d) (a * c) (a % d) 0
    (λ e.
    let f : left a d * d ≡ a = eq_of_mul-eq-mul_right c C (left a d * d) a (mul_right_comm (left a d) d c ∙ e) in
    ap (λ (k : ℕ). k % d) (sym f) ∙ mul-mod_left (left a d) d)
    (λ e. mul_right_comm (left a d) c d ∙ ap (λ (k : ℕ). k * c) (left_whole a d D e))

module _ (a d : ℕ) (D : 0 < d) (h : a ≤ 2 ^ 24 * d) where
  low_end : 2 ^ 52 * d ≤ above a d
  low_end = omega arith

  high_end : above a d < 2 ^ 53 * d
  high_end = omega arith

  left_value : HasValue (sub binary64 (round binary64 false (above a d) d) far) false (left a d) 1
  unfolding sum
  left_value =
      let q = closest (above a d) d in
      let at_most : q ≤ 2 ^ 53 = closest_high (above a d) d D low_end high_end in
      rw (
        sub_at (round binary64 false (above a d) d) far false q false (2 ^ 52) 1 (zero-lt-suc 0)
            (rounded_value (above a d) d D low_end high_end) (refl, refl) binary64,
        le-ltb q (2 ^ 52) (closest_low (above a d) d D low_end high_end),
      )
      (round_whole binary64 false (left a d) (omega arith))

module _ (m : ℕ) (e : ℤ) where
  added : add binary64 (fin false m e) far ≡ round binary64 false (above (m * up e) (down e)) (down e)
  unfolding add sum
  added = rw (mul-one (m * up e), mul-one (down e))

  same_left : (y : Float) → HasValue y false (left (m * up e) (down e)) 1 → eq y (fin false m e)
      ≡ eqb (m * up e % down e) 0
  unfolding eq
  same_left nan v = absurd v
  same_left (inf s) v = absurd v
  same_left (fin s n g) v =
      let size : n * up g ≡ left (m * up e) (down e) * down g = sym (mul-one (n * up g)) ∙ v.1 in
      rw (v.0, size, and_true) (left_is (m * up e) (down e) (down g) (down_pos e) (down_pos g))

  comes_back_lem : m * up e ≤ 2 ^ 24 * down e → eq (sub binary64 (add binary64 (fin false m e) far) far) (fin false m e)
      ≡ eqb (m * up e % down e) 0
  comes_back_lem h = rw added (same_left _ (left_value (m * up e) (down e) (down_pos e) h))

-- the test of a number from 0.0 to 2 ^ 24
module _ (m : ℕ) (e : ℤ) (w : le (fin false m e) (fin false 1 (pos 24)) ≡ true) where
  whole_at : comes_back (fin false m e) ≡ tick (fin false m e)
  unfolding comes_back
  whole_at = comes_back_lem m e (small m e w) ∙ sym (tick_rest m e w)

pub whole_tick : (x : Float) → UpTo 24 x → comes_back x ≡ tick x
whole_tick nan u = absurd u.value
whole_tick (inf s) u = absurd u.value
whole_tick (fin true m e) u = absurd (true≢false u.value.0)
whole_tick (fin false m e) u = whole_at m e (up_to_end 24 (fin false m e) u)

-- the test of any number's magnitude
pub size_tick : (x : Float) → le (magnitude_of x) (fin false 1 (pos 24)) && comes_back (magnitude_of x)
    ≡ tick (magnitude_of x)
unfolding magnitude_of le lt eq tick
size_tick nan = refl
size_tick (inf s) = refl
size_tick (fin s m e) = go (le (fin false m e) (fin false 1 (pos 24))) refl
  where
    go : (t : Bool) → le (fin false m e) (fin false 1 (pos 24)) ≡ t → t && comes_back (fin false m e)
        ≡ tick (fin false m e)
    go true w = whole_at m e w
    go false w = sym (too_far (fin false m e) w)
