-- Every cell of `mms_positions` is a number from -1 to 1: the mean lies between the lowest and the highest, and
-- rounding keeps that order. Assumes nothing.
use mathlib.Core.Path.{◌≡◌, refl, sym, subst, ◌∙◌}
use mathlib.Core.Bool.{Bool, true, false, cond, true≢false}
use Prim.Native.Nat.{ℕ, zero, suc, ◌+◌, ◌-◌, ◌*◌, ◌^◌, ◌<◌, ◌≤◌}
use native.Mathlib.Nat.{le_refl, mul-pos, zero-mul}
use native.Mathlib.Omega.{arith}
use borrow.Author.Tests.{le-ltb, ltb-false}
use lib.Dec.{ltb, lit≤, lit<}
use lib.IntN.{ℤ}
use lib.Ieee.{Float, nan, inf, fin, binary64, up, down, round, sum, neg, add, sub, mul, div, lt}
use lib.Ieee.Scale.{round_same}
use lib.Ieee.Fits.{up_pos, down_pos}
use Rattle.rounding.specs.Leaves.{plus_one, minus_one, two, negative, magnitude_of}
use Rattle.rounding.specs.Literals.{ten_to_minus}
use Rattle.rounding_laws.proofs.Bounds.{AtMost, sub_at_most, at_most_number}
use Rattle.rounding_laws.proofs.Value.{sub_at, mul_at, div_at}
use Rattle.rounding_order.proofs.Itself.{number_less_itself}
use Rattle.rounding_order.proofs.Outward.{lt_self, sub_inside_first, no_parts}
use Rattle.rounding.proofs.Signs.{round_plain}
use Rattle.rounding_order.proofs.Within.{Within, within_whole, FromMinusOneToOne, in_unit}
use Rattle.cells.specs.Line.{Line, plus_zero, minus_zero}
use Rattle.cells.proofs.Line.{from_bar_lem}
use Rattle.windows.specs.Window.{mean}
use Rattle.extremes.specs.Extreme.{larger, smaller, pick_from, extreme}
use Rattle.extremes.proofs.Order.{lt_between}
use Rattle.exact_ticks.proofs.Bounds.{from_bar_holds, Bounded, mean_bounded, highest_bounded, lowest_bounded}
use Rattle.rules_mms.specs.Mms.{scaled_by, scaled_between, mms_line}

-- ---- the last cell of a window is not above its highest, nor below its lowest

larger_last : (x y : Float) → lt (larger x y) y ≡ false
larger_last x y = go (lt x y) refl
  where
    go : (t : Bool) → lt x y ≡ t → lt (cond t y x) y ≡ false
    go true e = lt_self y
    go false e = e

smaller_last : (x y : Float) → lt y (smaller x y) ≡ false
smaller_last x y = go (lt y x) refl
  where
    go : (t : Bool) → lt y x ≡ t → lt y (cond t y x) ≡ false
    go true e = lt_self y
    go false e = e

picked_last : (pick : Float → Float → Float) (P : Float → Float → Type 0) → ((x : Float) → P x x)
    → ((x y : Float) → P (pick x y) y) → (f : Line) (a k : ℕ) → P (pick_from pick f a k) (f (a + k))
unfolding pick_from
picked_last pick P self last f a zero = let e : a + 0 ≡ a = omega arith in rw e (self (f a))
picked_last pick P self last f a (suc k) = last _ (f (a + suc k))

extreme_last : (pick : Float → Float → Float) (P : Float → Float → Type 0) → ((x : Float) → P x x)
    → ((x y : Float) → P (pick x y) y) → (w : ℕ) (f : Line) (i : ℕ) → (0 < w) × (w ≤ i + 1)
    → P (extreme pick w f i) (f i)
unfolding extreme
extreme_last pick P self last w f i (h, l) =
    let e : i + 1 - w + (w - 1) ≡ i = omega arith in
    rw (from_bar_lem (w - 1) plus_zero (λ j. pick_from pick f (j + 1 - w) (w - 1)) i (omega arith))
    (subst (λ j. P (pick_from pick f (i + 1 - w) (w - 1)) (f j)) e (picked_last pick P self last f (i + 1 - w) (w - 1)))

-- ---- a share of the spread

minus_zero_rounded : (c : ℕ) → 0 < c → round binary64 true 0 c ≡ minus_zero
unfolding round
minus_zero_rounded c C = round_same binary64 true 0 c 0 1 C (lit< tt) (simp zero-mul) ∙ refl

-- twice a share from 0 to 1, less 1
module _ {x : Float} (w : Within false 1 1 x) where
  twice : Within false 2 1 (mul binary64 x two)
  twice =
      let a = w.count in
      let c = w.parts in
      let C = w.some in
      let l = w.size in
      rw (mul_at x two false a c false 2 1 C (lit< tt) w.value (refl, refl) binary64)
      (within_whole false (a * 2) (c * 1) 2 (omega arith) (lit≤ tt) (omega arith))

  moved : FromMinusOneToOne (sub binary64 (mul binary64 x two) plus_one)
  unfolding sum
  moved =
      let a = twice.count in
      let c = twice.parts in
      rw (sub_at (mul binary64 x two) plus_one false a false c c twice.some twice.value (refl, omega arith)
      binary64) (go (ltb a c) refl)
    where
      go : (t : Bool) → ltb twice.count twice.parts ≡ t
          → FromMinusOneToOne (cond t (round binary64 true (twice.parts - twice.count) twice.parts)
          (round binary64 false (twice.count - twice.parts) twice.parts))
      go true e = in_unit (within_whole true _ _ 1 twice.some (lit≤ tt) (omega arith))
      go false e =
          in_unit (within_whole false _ _ 1 twice.some (lit≤ tt) (let l = twice.size in omega arith))

least : sub binary64 (mul binary64 minus_zero two) plus_one ≡ minus_one
unfolding sub add neg sum mul round
least = refl

-- a share of a spread that is above 0
scaled : (s : Bool) (m n : ℕ) (e g : ℤ) → lt (fin s m e) plus_zero ≡ false
    → lt (fin false (suc n) g) (fin s m e) ≡ false
    → FromMinusOneToOne (sub binary64 (mul binary64 (div binary64 (fin s m e) (fin false (suc n) g)) two) plus_one)
unfolding lt
scaled false m n e g p q =
    let a = m * up e in
    let b = suc n * up g in
    let some : 0 < b = mul-pos (omega arith) (up_pos g) in
    let few = ltb-false (b * down e) (a * down g) q in
    rw (div_at (fin false m e) (fin false (suc n) g) false a (down e) false b (down g) (down_pos e) (down_pos g) some
    (refl, refl) (refl, refl) binary64)
    (moved (within_whole false (a * down g) (b * down e) 1 (mul-pos some (down_pos e)) (lit≤ tt) (omega arith)))
scaled true m n e g p q =
    let none = no_parts m e p in
    let b = suc n * up g in
    let some : 0 < b = mul-pos (omega arith) (up_pos g) in
    rw (
      none,
      div_at (fin true 0 e) (fin false (suc n) g) true 0 1 false b (down g) (lit< tt) (down_pos g) some
          (refl, simp zero-mul) (refl, refl) binary64,
      zero-mul,
      minus_zero_rounded (b * 1) (omega arith),
      least,
    )
    (in_unit {s = true} record { count = 1; parts = 1; some = lit< tt; value = (refl, refl); size = lit≤ tt })

-- a spread of 0 is not above 1e-10
none_above : (x : Float) (g : ℤ) → negative x ≡ false → lt x (fin false 0 g) ≡ false
unfolding lt negative
none_above nan g p = refl
none_above (inf s) g p = p
none_above (fin s m e) g p = rw (p, zero-mul (up g), zero-mul (down e)) (le-ltb (m * up e * down g) 0 (omega arith))

no_spread : (g : ℤ) → lt (ten_to_minus 10) (fin false 0 g) ≡ false
unfolding ten_to_minus
no_spread g = none_above (ten_to_minus 10) g (round_plain false 1 (10 ^ 10)).0

-- x and d are the mean and the highest less the lowest
between : (x d : Float) {a b : ℕ} → lt x plus_zero ≡ false → lt d x ≡ false → AtMost a x → AtMost b d
    → lt (ten_to_minus 10) (magnitude_of d) ≡ true
    → FromMinusOneToOne (sub binary64 (mul binary64 (div binary64 x d) two) plus_one)
unfolding magnitude_of
between x d p q u v wide =
    let above = lt_between false d x plus_zero (at_most_number u) q p in
    rw (u.is, v.is)
    (go v.sign v.digits v.place (rw v.is at above) (rw (u.is, v.is) at q) (rw v.is at wide))
  where
    go : (t : Bool) (n : ℕ) (g : ℤ) → lt (fin t n g) plus_zero ≡ false
        → lt (fin t n g) (fin u.sign u.digits u.place) ≡ false
        → lt (ten_to_minus 10) (fin false n g) ≡ true
        → FromMinusOneToOne
        (sub binary64 (mul binary64 (div binary64 (fin u.sign u.digits u.place) (fin t n g)) two) plus_one)
    go t zero g h l w = absurd (true≢false (sym w ∙ no_spread g))
    go true (suc n) g h l w = let e = no_parts (suc n) g h in absurd (omega arith)
    go false (suc n) g h l w = scaled u.sign u.digits n u.place g (rw u.is at p) l

-- ---- the rule

zero_within : FromMinusOneToOne plus_zero
zero_within = in_unit {s = false} record { count = 0; parts = 1; some = lit< tt; value = (refl, refl); size = lit≤ tt }

-- a number less itself
less_itself : (x : Float) {b : ℕ} → AtMost b x → sub binary64 x x ≡ plus_zero
less_itself x p = rw p.is (number_less_itself p.sign p.digits p.place)

module _ (average high low : Float) (m : AtMost (2 ^ 30) average) (h : AtMost (2 ^ 30) high)
    (l : AtMost (2 ^ 30) low) where
  less_low : (x : Float) → AtMost (2 ^ 30) x → AtMost (2 ^ 31) (sub binary64 x low)
  less_low x p = sub_at_most p l (omega arith)

  -- a difference from the lowest keeps the order
  from_low : (x y : Float) → AtMost (2 ^ 30) x → AtMost (2 ^ 30) y → lt y x ≡ false
      → lt (sub binary64 y low) (sub binary64 x low) ≡ false
  from_low x y p q e =
      let u = less_low x p in
      let v = less_low y q in
      rw (u.is, v.is)
      (rw (u.is, v.is) at (sub_inside_first false low x y (rw (p.is, q.is) (rw (p.is, q.is) at e))))

  scaled_within : lt high average ≡ false → lt average low ≡ false → FromMinusOneToOne (scaled_between average high low)
  scaled_within p q = go (lt (ten_to_minus 10) (magnitude_of (sub binary64 high low))) refl
    where
      go : (t : Bool) → lt (ten_to_minus 10) (magnitude_of (sub binary64 high low)) ≡ t
          → FromMinusOneToOne (cond t (scaled_by average low (sub binary64 high low)) plus_zero)
      go false e = zero_within
      go true e =
          between (sub binary64 average low) (sub binary64 high low)
          (rw (less_itself low l) at (from_low low average l m q))
          (from_low average high m h p)
          (less_low average m) (less_low high h) e

-- every cell of the rule, for prices within 2 ^ 30
pub mms_within : (n w : ℕ) (f : Line) (i : ℕ) → Bounded (2 ^ 30) f i → (0 < n) × (n ≤ 2 ^ 12) → (0 < w) × (w ≤ 2 ^ 12)
    → FromMinusOneToOne (mms_line n w f i)
unfolding mms_line
mms_within n w f i bounded (N, N') (W, W') =
    let means = mean_bounded n N N' f i bounded in
    from_bar_holds FromMinusOneToOne (n + w - 2) _ i zero_within
    (λ k.
    scaled_within (mean n f i) (extreme larger w (mean n f) i) (extreme smaller w (mean n f) i) (means i (le_refl i))
    (highest_bounded w W W' (mean n f) i means) (lowest_bounded w W W' (mean n f) i means)
    (extreme_last larger (λ x y. lt x y ≡ false) lt_self larger_last w (mean n f) i (W, omega arith))
    (extreme_last smaller (λ x y. lt y x ≡ false) lt_self smaller_last w (mean n f) i (W, omega arith)))
