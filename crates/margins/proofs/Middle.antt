-- Means by running sums, their highest and lowest, and what the middle of these decides. Assumes nothing.
use mathlib.Core.Path.{◌≡◌, refl, sym, ◌∙◌}
use mathlib.Core.Bool.{Bool, true, false, cond}
use mathlib.Core.List.{List}
use Prim.Native.Nat.{ℕ, zero, suc, ◌+◌, ◌-◌, ◌*◌, ◌^◌, ◌<◌, ◌≤◌}
use native.Mathlib.Nat.{le_refl, mul-le-mul_right}
use native.Mathlib.Omega.{arith}
use borrow.Author.Tests.{ltb-false}
use lib.Dec.{T, lit<, lit≤}
use lib.IntN.{ℤ, pos, nat_abs, ◌+ℤ◌, ◌-ℤ◌, ◌*ℤ◌}
use lib.ListN.{length}
use lib.Ieee.{Float, binary64, add, sub, div, lt, eq, of_int, fits}
use Rattle.rounding.specs.Leaves.{sign_of, two}
use Rattle.rounding.specs.Nearest.{in_units, signed_units, Number}
use Rattle.rounding_laws.proofs.Integers.{
  above,
  below,
  Near,
  near_abs,
  abs_gap,
  abs_add,
  parts_abs,
  parts_add,
  parts_less,
  parts_lt,
  parts_times,
}
use Rattle.rounding_laws.proofs.About.{number_lt}
use Rattle.limits.specs.Limits.{Window, longest_series}
use Rattle.values.specs.Accepted.{accepted, all}
use Rattle.values.proofs.All.{and_parts}
use Rattle.cells.specs.Line.{Line, line, plus_zero}
use Rattle.cells.proofs.Line.{from_bar_lem}
use Rattle.windows.specs.Window.{mean}
use Rattle.extremes.specs.Extreme.{larger, smaller, pick_of, pick_from, extreme}
use Rattle.windows.specs.inner.Means.{running_means}
use Rattle.margins.specs.inner.Margin.{largest_of, margin_of, far_from_middle}
use Rattle.margins.proofs.Relative.{apart_near, size_by, rounds_off, add_rounds, div_off, roof}
use Rattle.margins.proofs.Means.{spread}
use Rattle.margins.proofs.Shares.{Close}
use Rattle.margins.proofs.Signs.{near_signs, near_some}
use Rattle.margins.proofs.Bound.{room_for, margin_wide}
use Rattle.margins.proofs.Twice.{known, running_windowed, means_windowed, once_near}

-- ---- near lines have near extremes

-- the order of two numbers in units
less : {x y : Float} → Number binary64 x → Number binary64 y → lt x y ≡ true
    → above (signed_units binary64 x) + below (signed_units binary64 y)
    ≤ above (signed_units binary64 y) + below (signed_units binary64 x)
less {x} {y} n m e =
    let h = parts_less (signed_units binary64 x) (signed_units binary64 y) (sym (number_lt n m) ∙ e) in
    omega arith

no_less : {x y : Float} → Number binary64 x → Number binary64 y → lt x y ≡ false
    → above (signed_units binary64 y) + below (signed_units binary64 x)
    ≤ above (signed_units binary64 x) + below (signed_units binary64 y)
no_less {x} {y} n m e =
    let v = signed_units binary64 x in
    let w = signed_units binary64 y in
    ltb-false (above v + below w) (above w + below v) (sym (parts_lt v w) ∙ sym (number_lt n m) ∙ e)

module _ {b e : ℕ} {x x' y y' : Float} (h : Close b e x x') (k : Close b e y y') where
  abbrev v : ℤ
  v = signed_units binary64 x

  abbrev v' : ℤ
  v' = signed_units binary64 x'

  abbrev w : ℤ
  w = signed_units binary64 y

  abbrev w' : ℤ
  w' = signed_units binary64 y'

  crossed : nat_abs (w -ℤ v') * 2 ^ 56 ≤ e → Close b e y x'
  crossed a = record {
    first = k.first;
    second = h.second;
    first_size = k.first_size;
    second_size = h.second_size;
    apart = a;
  }

  -- y is the larger of x and y, and x' of x' and y': these are close too
  crossed_high : above v + below w ≤ above w + below v → above w' + below v' ≤ above v' + below w' → Close b e y x'
  crossed_high p q =
      let i = near_abs v v' (le_refl _) in
      let j = near_abs w w' (le_refl _) in
      let c = h.apart in
      let d = k.apart in
      crossed (rw (abs_gap w v') (omega arith))

  -- or the smaller
  crossed_low : above w + below v ≤ above v + below w → above v' + below w' ≤ above w' + below v' → Close b e y x'
  crossed_low p q =
      let i = near_abs v v' (le_refl _) in
      let j = near_abs w w' (le_refl _) in
      let c = h.apart in
      let d = k.apart in
      crossed (rw (abs_gap w v') (omega arith))

-- the larger of two, and the smaller
pick_close : {b e : ℕ} {x x' y y' : Float} (high : Bool) → Close b e x x' → Close b e y y'
    → Close b e (pick_of high x y) (pick_of high x' y')
pick_close {b} {e} {x} {x'} {y} {y'} true h k = go (lt x y) (lt x' y') refl refl
  where
    go : (t u : Bool) → lt x y ≡ t → lt x' y' ≡ u → Close b e (cond t y x) (cond u y' x')
    go true true p q = k
    go true false p q = crossed_high h k (less h.first k.first p) (no_less h.second k.second q)
    go false true p q = crossed_high k h (no_less h.first k.first p) (less h.second k.second q)
    go false false p q = h
pick_close {b} {e} {x} {x'} {y} {y'} false h k = go (lt y x) (lt y' x') refl refl
  where
    go : (t u : Bool) → lt y x ≡ t → lt y' x' ≡ u → Close b e (cond t y x) (cond u y' x')
    go true true p q = k
    go true false p q = crossed_low h k (less k.first h.first p) (no_less k.second h.second q)
    go false true p q = crossed_low k h (no_less k.first h.first p) (less k.second h.second q)
    go false false p q = h

picked_close : {b e : ℕ} (high : Bool) (f g : Line) (a k : ℕ)
    → ((j : ℕ) → j ≤ a + k → Close b e (f j) (g j))
    → Close b e (pick_from (pick_of high) f a k) (pick_from (pick_of high) g a k)
unfolding pick_from
picked_close high f g a zero h = h a (omega arith)
picked_close high f g a (suc k) h =
    pick_close high (picked_close high f g a k (λ j l. h j (omega arith))) (h (a + suc k) (le_refl _))

-- the law: lines whose cells are close have extremes that are as close
pub extreme_close : {b e : ℕ} (high : Bool) (n : ℕ) (f g : Line) (i : ℕ) → 0 < n → n ≤ i + 1
    → ((j : ℕ) → j ≤ i → Close b e (f j) (g j))
    → Close b e (extreme (pick_of high) n f i) (extreme (pick_of high) n g i)
unfolding extreme
extreme_close high n f g i N b h =
    rw (
      from_bar_lem (n - 1) plus_zero (λ i. pick_from (pick_of high) f (i + 1 - n) (n - 1)) i (omega arith),
      from_bar_lem (n - 1) plus_zero (λ i. pick_from (pick_of high) g (i + 1 - n) (n - 1)) i (omega arith),
    )
    (picked_close high f g (i + 1 - n) (n - 1) (λ j l. h j (omega arith)))

-- ---- and a near middle

pub two_is : two ≡ of_int binary64 (pos 2)
unfolding of_int
two_is = refl

abbrev middle : Float → Float → Float
middle high low = div binary64 (add binary64 high low) two

-- q stands for half of the sum of x and y, numbers of at most b units
record Halved (b : ℕ) (x y q : ℤ) : Type 0 where
  size : nat_abs q ≤ 3 * b + 1
  near : Near ((above q * 2 + (below x + below y)) * 2 ^ 53) ((above x + above y + below q * 2) * 2 ^ 53)
      (6 * b + 2 ^ 53)

halved : (b : ℕ) (x y z q : ℤ) → nat_abs x ≤ b → nat_abs y ≤ b
    → nat_abs (z -ℤ (x +ℤ y)) * 2 ^ 53 ≤ nat_abs (x +ℤ y) → nat_abs (q *ℤ pos 2 -ℤ z) * 2 ^ 53 ≤ nat_abs z + 2 * 2 ^ 52
    → Halved b x y q
halved b x y z q h k o d =
    let s = x +ℤ y in
    let t = parts_times q 2 in
    let sum : nat_abs s ≤ 2 * b = omega (arith, abs_add x y) in
    let whole = most b (nat_abs s) (nat_abs z) (nat_abs (z -ℤ s)) sum
    (size_by z s (near_abs z s (le_refl _)) (le_refl _)) o in
    let double = size_by (q *ℤ pos 2) z {q = nat_abs z + nat_abs (q *ℤ pos 2 -ℤ z)}
    (near_abs (q *ℤ pos 2) z (le_refl _)) (le_refl _) in
    let u = parts_abs (q *ℤ pos 2) in
    let w = parts_abs q in
    record {
      size = half b (nat_abs z) (nat_abs q) (nat_abs (q *ℤ pos 2 -ℤ z)) whole (omega arith) d;
      near = go (above s) (below s) (above z) (below z) (nat_abs s) (nat_abs z) sum whole (parts_add x y)
          (apart_near z s o) (rw (t.0, t.1) at (apart_near (q *ℤ pos 2) z d));
    }
  where
    most : (b s z d : ℕ) → s ≤ 2 * b → z ≤ s + d → d * 2 ^ 53 ≤ s → z ≤ 4 * b
    most b s z d h k l = omega arith

    half : (b z q d : ℕ) → z ≤ 4 * b → q * 2 ≤ z + d → d * 2 ^ 53 ≤ z + 2 * 2 ^ 52 → q ≤ 3 * b + 1
    half b z q d h k l = omega arith

    go : (s⁺ s⁻ z⁺ z⁻ s z : ℕ) → s ≤ 2 * b → z ≤ 4 * b → s⁺ + (below x + below y) ≡ above x + above y + s⁻
        → Near ((z⁺ + s⁻) * 2 ^ 53) ((s⁺ + z⁻) * 2 ^ 53) s
        → Near ((above q * 2 + z⁻) * 2 ^ 53) ((z⁺ + below q * 2) * 2 ^ 53) (z + 2 * 2 ^ 52)
        → Near ((above q * 2 + (below x + below y)) * 2 ^ 53) ((above x + above y + below q * 2) * 2 ^ 53)
        (6 * b + 2 ^ 53)
    go s⁺ s⁻ z⁺ z⁻ s z h k e n m = omega arith

middle_halved : {b : ℕ} {x y : Float} → Number binary64 x → Number binary64 y
    → nat_abs (signed_units binary64 x) ≤ b → nat_abs (signed_units binary64 y) ≤ b → 4 * b < roof
    → Number binary64 (middle x y)
    × Halved b (signed_units binary64 x) (signed_units binary64 y) (signed_units binary64 (middle x y))
middle_halved {b} {x} {y} n m h k r =
    let sum = abs_add (signed_units binary64 x) (signed_units binary64 y) in
    let o = rounds_off (add_rounds n m) (omega arith) in
    let z = signed_units binary64 (add binary64 x y) in
    let s = signed_units binary64 x +ℤ signed_units binary64 y in
    let c = o.close in
    let few = size_by z s {q = 4 * b} (near_abs z s (le_refl _)) (omega arith) in
    let (number, d) = rw (← two_is) at (div_off 2 o.number (lit< tt) (lit≤ tt) (omega arith)) in
    (number, halved b (signed_units binary64 x) (signed_units binary64 y) z _ h k c d)

-- from near highest and lowest
middle_close : {b e : ℕ} {x x' y y' : Float} → Close b e x x' → Close b e y y' → 4 * b < roof
    → Close (3 * b + 1) (e + 48 * b + 2 ^ 56) (middle x y) (middle x' y')
middle_close {b} {e} {x} {x'} {y} {y'} h k r =
    let (n, p) = middle_halved h.first k.first h.first_size k.first_size r in
    let (n', p') = middle_halved h.second k.second h.second_size k.second_size r in
    let v = signed_units binary64 x in
    let v' = signed_units binary64 x' in
    let w = signed_units binary64 y in
    let w' = signed_units binary64 y' in
    record {
      first = n;
      second = n';
      first_size = p.size;
      second_size = p'.size;
      apart = together b e v v' w w' (signed_units binary64 (middle x y)) (signed_units binary64 (middle x' y'))
          p.near p'.near h.apart k.apart;
    }
  where
    together : (b e : ℕ) (v v' w w' q q' : ℤ)
        → Near ((above q * 2 + (below v + below w)) * 2 ^ 53) ((above v + above w + below q * 2) * 2 ^ 53)
        (6 * b + 2 ^ 53)
        → Near ((above q' * 2 + (below v' + below w')) * 2 ^ 53) ((above v' + above w' + below q' * 2) * 2 ^ 53)
        (6 * b + 2 ^ 53)
        → nat_abs (v -ℤ v') * 2 ^ 56 ≤ e → nat_abs (w -ℤ w') * 2 ^ 56 ≤ e
        → nat_abs (q -ℤ q') * 2 ^ 56 ≤ e + 48 * b + 2 ^ 56
    together b e v v' w w' q q' n n' c d =
        let i = near_abs v v' (le_refl _) in
        let j = near_abs w w' (le_refl _) in
        rw (abs_gap q q') (omega arith)

-- ---- what the middle decides

-- twice the errors of mean and middle are less than the margin
wide_enough : (m u x y : ℕ) → m * 6 + 2 ^ 60 ≤ u * 2 ^ 34 → x * 2 ^ 56 ≤ 8 * spread m 0
    → y * 2 ^ 56 ≤ 8 * spread m 0 + 48 * (3 * m + 1) + 2 ^ 56 → (x + y) * 2 ≤ u
wide_enough m u x y h k l = omega arith

small : (m u x : ℕ) → m * 6 + 2 ^ 60 ≤ u * 2 ^ 34 → x * 2 ^ 56 ≤ 8 * spread m 0 → x * 2 ≤ u
small m u x h k = omega arith

-- accepted prices, and a window
module _ (s : List Float) (n : ℕ) (ok : all accepted s ≡ true) (floats : (j : ℕ) → T (fits binary64 (line s j)))
    (w : Window n) (B : length s ≤ longest_series) where
  abbrev most : Float
  most = largest_of (line s) (length s)

  abbrev m : ℕ
  m = in_units binary64 most

  means_close : (i : ℕ) → i < length s
      → Close (3 * m + 1) (8 * spread m 0) (running_means n (line s) i) (mean n (line s) i)
  means_close i h =
      let a = (running_windowed s n ok floats w B).small in
      let b = (means_windowed s n ok floats w B).small in
      let c = once_near s n ok floats w B i h in
      record {
        first = a.number i h;
        second = b.number i h;
        first_size = a.size i h;
        second_size = b.size i h;
        apart = omega arith;
      }

  -- where mean and middle are farther apart than the margin, and so are each of highest and lowest and 0
  pub decided_middle : (i : ℕ) → n ≤ i + 1 → i < length s
      → let g = running_means n (line s) in
      let g' = mean n (line s) in
      let high = extreme larger n g i in
      let high' = extreme larger n g' i in
      let low = extreme smaller n g i in
      let low' = extreme smaller n g' i in
      far_from_middle (margin_of most) (g i) high low ≡ true
      → (sign_of (sub binary64 (g i) (div binary64 (add binary64 high low) two))
      ≡ sign_of (sub binary64 (g' i) (div binary64 (add binary64 high' low') two)))
      × ((eq high plus_zero ≡ false) × (eq high' plus_zero ≡ false))
      × ((eq low plus_zero ≡ false) × (eq low' plus_zero ≡ false))
  decided_middle i full h e =
      let (apart, both) = and_parts (lt (margin_of most) _) _ e in
      let (high_some, low_some) = and_parts (lt (margin_of most) _) _ both in
      let (u, g, k) = margin_wide (known s n ok floats w B).plus (known s n ok floats w B).low in
      let r = room_for m n (known s n ok floats w B).low (omega (arith, w.narrow)) in
      let one = mul-le-mul_right (m + 1) w.some in
      let close = means_close i h in
      let high = extreme_close true n (running_means n (line s)) (mean n (line s)) i w.some full
      (λ j l. means_close j (omega arith)) in
      let low = extreme_close false n (running_means n (line s)) (mean n (line s)) i w.some full
      (λ j l. means_close j (omega arith)) in
      let half = middle_close high low (omega arith) in (
        near_signs g close.first close.second half.first half.second
            (wide_enough m u _ _ k close.apart half.apart)
            (omega (arith, close.first_size, half.first_size)) apart,
        near_some g high.first high.second (small m u _ k high.apart) high_some,
        near_some g low.first low.second (small m u _ k low.apart) low_some,
      )
