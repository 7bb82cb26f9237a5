-- The exponential rule by running sums of any prices: how far its average is from the rule's own, and what it decides.
-- Assumes nothing.
use mathlib.Core.Path.{◌≡◌, refl}
use mathlib.Core.Bool.{true, false, true≢false}
use Prim.Native.Nat.{ℕ, ◌+◌, ◌-◌, ◌*◌, ◌/◌, ◌^◌, ◌<◌, ◌≤◌}
use native.Mathlib.Nat.{le_trans, mul-le-mul_left, mul-le-mul_right, le_of_mul-le-mul_right, div-add-mod', mod-lt}
use native.Mathlib.Omega.{arith}
use lib.Dec.{T, lit<}
use lib.Pow.{pow_pos}
use lib.Ieee.{Float, nan, inf, fin, binary64, up, down, sub, lt, fits}
use lib.Ieee.Fits.{down_pos, sub-fits, div-fits}
use Rattle.rounding.specs.Leaves.{plus_one, negative, magnitude_of, sign_of}
use Rattle.rounding.specs.Nearest.{in_units, signed_units}
use Rattle.rounding_laws.proofs.Integers.{abs_same}
use Rattle.rounding_laws.proofs.Units.{worth}
use lib.Ieee.Exact.{HasValue}
use Rattle.rounding_order.proofs.Within.{Within, rest_share}
use Rattle.cells.specs.Line.{Line}
use Rattle.windows.specs.Window.{over, window_sum, mean, add_difference}
use Rattle.windows.proofs.Window.{mean_of}
use Rattle.averages.specs.Blend.{blend, ema_alpha}
use Rattle.windows.specs.inner.Means.{running_means}
use Rattle.margins.proofs.Relative.{roof, longest_summed}
use Rattle.margins.proofs.Sums.{Windowed, Carried, fresh, carry}
use Rattle.margins.proofs.Means.{
  spread,
  average_near,
  average_number,
  average_size,
  running_means_small,
  means_small,
  running_means_near,
}
use Rattle.margins.proofs.Signs.{Margin, near_sign}
use Rattle.margins.proofs.Shares.{Share, MakeUp, rest_of, Close, blend_close}
use Rattle.rules_ema.specs.SingleEma.{ema_of_means}
use Rattle.rules_ema.proofs.SingleEma.{first_average, next_average}
use Rattle.rules_ema.proofs.Bounds.{alpha_share}

-- ---- the weights

-- a number from 0 to 1 is a share
share_of : {x : Float} → Within false 1 1 x → T (fits binary64 x) → Share x (in_units binary64 x)
unfolding negative
share_of {x} w h = go x w.count w.parts w.some w.value w.size h
  where
    most : (d u a c k q : ℕ) → 0 < c → 0 < d → u * c ≡ a * d → a * 1 ≤ 1 * c → u * q ≡ k * d → k ≤ q
    most d u a c k q C D v l z =
        let few : u ≤ d = le_of_mul-le-mul_right {k = c} (let m = mul-le-mul_right d l in omega arith) C in
        le_of_mul-le-mul_right {k = d} (let m = mul-le-mul_right q few in omega arith) D

    go : (x : Float) (a c : ℕ) → 0 < c → HasValue x false a c → a * 1 ≤ 1 * c → T (fits binary64 x)
        → Share x (in_units binary64 x)
    go nan a c C v l h = absurd v
    go (inf t) a c C v l h = absurd v
    go (fin true m e) a c C v l h = absurd (true≢false v.0)
    go (fin false m e) a c C v l h =
        let own = worth (fin false m e) (record { fit = h; ends = tt }) in
        record {
          worth = own;
          part = most (down e) (m * up e) a c _ (2 ^ 1074) C (down_pos e) v.1 l own.value.1;
        }

module _ (n : ℕ) (N : (0 < n) × (n ≤ 2 ^ 12)) where
  -- the weight of a mean, and that of the last average
  mean_share : Share (ema_alpha n) (in_units binary64 (ema_alpha n))
  mean_share = share_of (alpha_share n N) (div-fits binary64 _ _)

  last_share : Share (sub binary64 plus_one (ema_alpha n)) (in_units binary64 (sub binary64 plus_one (ema_alpha n)))
  last_share = share_of (rest_share (alpha_share n N)) (sub-fits binary64 _ _)

  weights : MakeUp (in_units binary64 (ema_alpha n)) (in_units binary64 (sub binary64 plus_one (ema_alpha n)))
      (2 ^ 1074)
  weights = rest_of mean_share last_share

-- ---- sizes and errors

pub close_more : {b b' e e' : ℕ} {x y : Float} → Close b e x y → b ≤ b' → e ≤ e' → Close b' e' x y
close_more p h k = record {
  first = p.first;
  second = p.second;
  first_size = le_trans p.first_size h;
  second_size = le_trans p.second_size h;
  apart = le_trans p.apart k;
}

-- what a mean, or a step of the average, may pass the largest number by
abbrev more : ℕ → ℕ
more m = m / 2 ^ 30 + 4

-- the size of an average after c steps, and of every one of them
abbrev size_at : ℕ → ℕ → ℕ
size_at m c = m + 2 ^ 24 + (c + 2) * more m

abbrev most : ℕ → ℕ
most m = 2 * m + 2 ^ 25

-- how far it is from the rule's own, in parts of 2 ^ 56 of a unit
abbrev error_at : ℕ → ℕ → ℕ
error_at m c = 8 * spread (m + more m) (spread m 0) + c * (34 * most m + 2 ^ 58)

module _ (m : ℕ) where
  divided : (m / 2 ^ 30 * 2 ^ 30 ≤ m) × (m < (m / 2 ^ 30 + 1) * 2 ^ 30)
  divided = let e = div-add-mod' m (2 ^ 30) in let l = mod-lt m {m = 2 ^ 30} (pow_pos 30) in (omega arith, omega arith)

  one_more : m * (2 ^ 33 + 1) + 2 ^ 33 ≤ (m + more m) * 2 ^ 33
  one_more = let d = divided in omega arith

  two_more : (m + more m) * (2 ^ 33 + 1) + 2 ^ 33 ≤ (m + 2 * more m) * 2 ^ 33
  two_more = let d = divided in omega arith

  -- the sizes of all steps, and what the law of a blend asks of them
  module _ (c : ℕ) (C : c ≤ longest_summed) where
    size_most : size_at m c ≤ most m
    size_most =
        let d = divided in
        let few : c + 2 ≤ 65538 = omega arith in
        let k = mul-le-mul_right (more m) few in
        omega arith

    error_most : error_at m c ≤ m * 9 * 2 ^ 20 + 2 ^ 75
    error_most =
        let d = divided.0 in
        go (m / 2 ^ 30) (c * (34 * most m + 2 ^ 58)) (omega arith) (mul-le-mul_right (34 * most m + 2 ^ 58) C)
      where
        go : (d e : ℕ) → d * 2 ^ 30 ≤ m → e ≤ longest_summed * (34 * most m + 2 ^ 58)
            → 8 * spread (m + (d + 4)) (spread m 0) + e ≤ m * 9 * 2 ^ 20 + 2 ^ 75
        go d e h k = omega arith

    error_small : error_at m c + 16 * size_at m c ≤ size_at m c * 2 ^ 53
    error_small = go (error_at m c) (size_at m c) error_most (omega arith)
      where
        go : (e b : ℕ) → e ≤ m * 9 * 2 ^ 20 + 2 ^ 75 → m + 2 ^ 24 ≤ b → e + 16 * b ≤ b * 2 ^ 53
        go e b h k = omega arith

    step_room : size_at m c * 8 + 2 ^ 54 ≤ more m * 2 ^ 53
    step_room = go (size_at m c) size_most
      where
        go : (b : ℕ) → b ≤ most m → b * 8 + 2 ^ 54 ≤ more m * 2 ^ 53
        go b h = let d = divided in omega arith

    next_error : error_at m c + 34 * size_at m c + 2 ^ 58 ≤ error_at m (c + 1)
    next_error = let s = size_most in omega arith

-- an average is at most that large
fewer : {k : ℕ} (j b : ℕ) → k * 2 ^ 33 ≤ j * (2 ^ 33 + 1) + 2 ^ 33 → j * (2 ^ 33 + 1) + 2 ^ 33 ≤ b * 2 ^ 33 → k ≤ b
fewer j b h l = le_of_mul-le-mul_right {k = 2 ^ 33} (le_trans h l) (pow_pos 33)

high : 2 ^ 30 < roof
unfolding roof
high = lit< tt

eighth : (a e : ℕ) → a * 2 ^ 53 ≤ e → a * 2 ^ 56 ≤ 8 * e
eighth a e h = omega arith

-- ---- the average

-- all are far below the largest numbers
low : {m n l : ℕ} {f : Line} → Windowed m n l f → 16 * (n * (m + 1)) < roof → (c : ℕ) → c ≤ longest_summed
    → 2 * size_at m c + m + 2 < roof
low {m} {n} w room c C =
    let k = mul-le-mul_right (m + 1) w.some in
    go (size_at m c) (size_most m c C) (omega arith)
  where
    go : (b : ℕ) → b ≤ most m → 16 * (m + 1) < roof → 2 * b + m + 2 < roof
    go b h r = let g = high in omega arith

module _ {m n l : ℕ} {f : Line} (w : Windowed m n l f) (B : l ≤ longest_summed) (room : 16 * (n * (m + 1)) < roof) where
  wide_room : 2 * (n * (m + more m)) < roof
  wide_room =
      let d = divided m in
      let few : m + more m ≤ 4 * (m + 1) = omega arith in
      omega (arith, mul-le-mul_left n few)

  running_means_wide : Windowed (m + more m) n l (running_means n f)
  running_means_wide = record {
    small = running_means_small w w B (m + more m) (one_more m);
    some = w.some;
    narrow = w.narrow;
    room = wide_room;
  }

  means_wide : Windowed (m + more m) n l (mean n f)
  means_wide = record {
    small = means_small w w B (m + more m) (one_more m);
    some = w.some;
    narrow = w.narrow;
    room = wide_room;
  }

  -- a mean by a running sum, c steps after a fresh one
  mean_close : {c : ℕ} {y : Float} (i : ℕ) → Carried m n f (i + 1) c y → n ≤ i + 1 → i < l → n + c ≤ longest_summed
      → Close (m + more m) (8 * spread m 0) (over n y) (mean n f i)
  mean_close i r b h L =
      let o = fresh w i b h in
      rw (← mean_of n i f refl b) (record {
        first = average_number w r b (omega arith) (omega arith);
        second = average_number w o b (omega arith) (omega arith);
        first_size = fewer m (m + more m) (average_size w r b (omega arith) (omega arith)) (one_more m);
        second_size = fewer m (m + more m) (average_size w o b (omega arith) (omega arith)) (one_more m);
        apart = eighth _ (spread m 0)
            (average_near w w 0 (λ j k. omega (arith, abs_same (signed_units binary64 (f j)))) i r b h L);
      })

  -- the mean of such means
  seed_close : (i : ℕ) → n ≤ i + 1 → i < l
      → Close (size_at m 0) (error_at m 0) (mean n (running_means n f) i) (mean n (mean n f) i)
  seed_close i b h =
      let r = fresh running_means_wide i b h in
      let o = fresh means_wide i b h in
      let N = w.narrow in
      let near = running_means_near w w B 0 (λ j k. omega (arith, abs_same (signed_units binary64 (f j)))) in
      rw (← mean_of n i (running_means n f) refl b, ← mean_of n i (mean n f) refl b) (close_more (record {
        first = average_number running_means_wide r b (omega arith) (omega arith);
        second = average_number means_wide o b (omega arith) (omega arith);
        first_size = fewer (m + more m) _ (average_size running_means_wide r b (omega arith) (omega arith))
            (two_more m);
        second_size = fewer (m + more m) _ (average_size means_wide o b (omega arith) (omega arith)) (two_more m);
        apart = eighth _ (spread (m + more m) (spread m 0))
            (average_near means_wide running_means_wide (spread m 0) near i r b h (omega arith));
      }) (omega arith) (omega arith))

  -- one step more
  step_close : {c : ℕ} {x x' last last' : Float} → Close (m + more m) (8 * spread m 0) x x'
      → Close (size_at m c) (error_at m c) last last' → c < longest_summed
      → Close (size_at m (c + 1)) (error_at m (c + 1)) (blend (ema_alpha n) last x) (blend (ema_alpha n) last' x')
  step_close {c} p q C =
      let N : (0 < n) × (n ≤ 2 ^ 12) = (w.some, w.narrow) in
      let bound : c ≤ longest_summed = omega arith in
      close_more
      (blend_close (mean_share n N) (last_share n N) (weights n N) (size_at m c) (error_at m c) (more m)
      (close_more p (omega arith) (omega arith)) q (error_small m c bound) (step_room m c bound)
      (let f = low w room c bound in omega arith))
      (omega arith) (next_error m c bound)

-- ---- the loop

-- an error of z units is at most half a margin of u units
half : (m u z e : ℕ) → z * 2 ^ 56 ≤ e → e ≤ m * 9 * 2 ^ 20 + 2 ^ 75 → m * 6 + 2 ^ 60 ≤ u * 2 ^ 34 → z * 2 ≤ u
half m u z e a b k = le_of_mul-le-mul_right {k = 2 ^ 36} (last (first a b)) (pow_pos 36)
  where
    first : z * 2 ^ 56 ≤ e → e ≤ m * 9 * 2 ^ 20 + 2 ^ 75 → z * 2 ^ 36 ≤ m * 9 + 2 ^ 55
    first a b = omega arith

    last : z * 2 ^ 36 ≤ m * 9 + 2 ^ 55 → z * 2 * 2 ^ 36 ≤ u * 2 ^ 36
    last c = omega arith

-- the running sum and the average at bar i, where both began at bar `start`: what the loop keeps
pub record Beside (m n : ℕ) (f : Line) (start i : ℕ) (sum average : Float) : Type 0 where
  pub carried : Carried m n f (i + 1) (i - start) sum
  pub close : Close (size_at m (i - start)) (error_at m (i - start)) average (ema_of_means start n f i)

module _ {m n l : ℕ} {f : Line} (w : Windowed m n l f) (B : l ≤ longest_summed) (room : 16 * (n * (m + 1)) < roof)
    (start : ℕ) (full : n ≤ start + 1) where
  -- the first bar
  pub begins : {sum seed : Float} → sum ≡ window_sum n f start → seed ≡ mean n (running_means n f) start → start < l
      → Beside m n f start start sum seed
  begins s e h =
      let none : start - start ≡ 0 = omega arith in
      rw (s, e) (record {
        carried = rw none (fresh w start full h);
        close = rw (none, ← first_average start n f refl) (seed_close w B room start full h);
      })

  -- one bar more
  pub goes_on : {i : ℕ} {sum sum' average average' : Float} → Beside m n f start i sum average
      → sum' ≡ add_difference sum (f (i + 1)) (f (i + 1 - n)) → average' ≡ blend (ema_alpha n) average (over n sum')
      → (start ≤ i) × (i + 1 < l) → Beside m n f start (i + 1) sum' average'
  goes_on {i} p s a (h, k) =
      let one : i + 1 - start ≡ i - start + 1 = omega arith in
      let r = carry w p.carried (omega arith) k (omega arith) in
      let next = next_average start n f i refl refl refl h in
      let mean = mean_close w B room (i + 1) r (omega arith) k (omega arith) in
      rw (a, s) (record {
        carried = rw one r;
        close = rw (one, ← next) (step_close w B room mean p.close (omega arith));
      })

  -- what it decides
  pub decides : {u i : ℕ} {sum average d : Float} → Beside m n f start i sum average → Margin u d
      → m * 6 + 2 ^ 60 ≤ u * 2 ^ 34 → lt d (magnitude_of (sub binary64 (f i) average)) ≡ true → i < l
      → sign_of (sub binary64 (f i) average) ≡ sign_of (sub binary64 (f i) (ema_of_means start n f i))
  decides {u} {i} p g k e h =
      let c = p.close in
      let size = size_most m (i - start) (omega arith) in
      let few = low w room (i - start) (omega arith) in
      let price = w.small.size i h in
      let first = c.first_size in
      near_sign g c.first c.second
      (half m u _ (error_at m (i - start)) c.apart (error_most m (i - start) (omega arith)) k)
      (w.small.number i h) (omega arith) e
