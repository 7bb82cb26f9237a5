-- How far a sum or a mean of rounded numbers is from the exact one. Assumes nothing.
use Prim.Native.Nat.{ℕ, zero, suc, ◌+◌, ◌-◌, ◌*◌, ◌^◌, ◌<◌, ◌≤◌}
use native.Mathlib.Nat.{le_refl, mul-le-mul_right, mul-le-mul_left, mul-le-mul, mul-pos}
use native.Mathlib.Omega.{arith}
use lib.Dec.{lit≤}
use lib.IntN.{ℤ, nat_abs}
use lib.Ieee.{binary64}
use Rattle.rounding.specs.Whole.{total}
use Rattle.rounding_laws.proofs.Integers.{total_size}
use Rattle.rounding_laws.proofs.About.{About, about_weaken, about_minus_zero, about_add, about_div}
use Rattle.rounding_laws.proofs.Quotient.{about_quotient}
use Rattle.cells.specs.Line.{Line, plus_zero, minus_zero}
use Rattle.cells.proofs.Line.{from_bar_lem}
use Rattle.windows.specs.Window.{sum_from, window_sum, mean, window_total}
use Rattle.exact_ticks.proofs.Exact.{TickLine, window_size, window_whole, mean_exact}

-- the cells of f from bar a on stand for the fractions z / c, of size at most b / c, within e
pub record Standing (f : Line) (z : ℕ → ℤ) (a k c e b : ℕ) : Type 0 where
  pub about : (j : ℕ) → j < k → About binary64 (f (a + j)) (z (a + j)) c e
  pub size : (j : ℕ) → j < k → nat_abs (z (a + j)) ≤ b

-- each of k additions below 2 ^ i is off by at most half a place
pub sum_about : {f : Line} {z : ℕ → ℤ} {a c e b : ℕ} (i k : ℕ) → Standing f z a k c e b → i ≤ 1023
    → k * (b * 2 ^ 53 * 2 + e + 2 ^ i * c) < 2 ^ i * c * 2 ^ 53 * 2
    → About binary64 (sum_from minus_zero f a k) (total z a k) c (k * (e + 2 ^ i * c))
unfolding sum_from total
sum_about {c = c} i zero s l h = about_weaken _ (about_minus_zero binary64 c) (omega arith)
sum_about {f} {z} {a} {c} {e} {b} i (suc k) s l h =
    let shorter : Standing f z a k c e b =
    record { about = λ j m. s.about j (omega arith); size = λ j m. s.size j (omega arith) } in
    let p = sum_about {f = f} {z = z} {a = a} {c = c} {e = e} {b = b} i k shorter l (omega arith) in
    let q = s.about k (le_refl (suc k)) in
    let x = total_size z a k b (λ j m. s.size j (omega arith)) in
    let y = s.size k (le_refl (suc k)) in
    about_weaken (suc k * (e + 2 ^ i * c)) (about_add i p q l (omega arith)) (omega arith)

-- a window's sum times a window's length stays below 2 ^ 52
pub products : (a b n m : ℕ) → a ≤ n * 2 ^ 24 → b ≤ m * 2 ^ 24 → n ≤ 2 ^ 12 → m ≤ 2 ^ 12 → a * m + b * n < 2 ^ 53
products a b n m p q r s =
    let x : a ≤ 2 ^ 36 = omega arith in
    let y : b ≤ 2 ^ 36 = omega arith in
    omega (arith, mul-le-mul x s, mul-le-mul y r)

-- ---- the mean of the means of whole ticks

-- k means of n ticks each and what their sum is off by stay below 2 ^ 34, and the sum over k below 2 ^ 25; p is 2 ^ 53
sum_room : (n k p : ℕ) → 0 < n → k ≤ 1023 → 2 ^ 20 ≤ p
    → k * (n * 2 ^ 24 * p * 2 + n * 2 ^ 25 + 2 ^ 34 * n) < 2 ^ 34 * n * p * 2
sum_room n k p N L P =
    let a : k * n ≤ 1023 * n = mul-le-mul_right n L in
    let b : k * n * p ≤ 1023 * n * p = mul-le-mul_right p a in
    let c : n * 2 ^ 20 ≤ n * p = mul-le-mul_left n P in
    omega arith

mean_room : (n k p d : ℕ) → 0 < n → 0 < k → 2 ^ 20 ≤ p → d ≤ k * (n * 2 ^ 24)
    → d * p * 2 + k * (n * 2 ^ 25 + 2 ^ 34 * n) < 2 ^ 25 * (n * k) * p * 2
mean_room n k p d N K P h =
    let a : d * p ≤ k * (n * 2 ^ 24) * p = mul-le-mul_right p h in
    let b : n * k * 2 ^ 20 ≤ n * k * p = mul-le-mul_left (n * k) P in
    let c : 0 < n * k = mul-pos N K in
    omega arith

module _ {l : ℕ} {f : Line} {t : ℕ → ℤ} (w : TickLine l f t) (n : ℕ) (N : 0 < n) (M : n ≤ 2 ^ 12) where
  pub window_total_size : (i : ℕ) → n ≤ i + 1 → i < l → nat_abs (window_total n t i) ≤ n * 2 ^ 24
  window_total_size i b h = window_size w (i + 1 - n) n (omega arith)

  pub mean_about : (i : ℕ) → n ≤ i + 1 → i < l → About binary64 (mean n f i) (window_total n t i) n (n * 2 ^ 25)
  mean_about i b h =
      rw (mean_exact w n N M i b h)
      (about_weaken (n * 2 ^ 25) (about_quotient (window_whole w n N M (i + 1 - n) (omega arith)))
      (omega (arith, window_total_size i b h)))

  module _ (k : ℕ) (K : 0 < k) where
    means_standing : (i : ℕ) → n + k ≤ i + 2 → i < l
        → Standing (mean n f) (window_total n t) (i + 1 - k) k n (n * 2 ^ 25) (n * 2 ^ 24)
    means_standing i b h = record {
      about = λ j m. mean_about (i + 1 - k + j) (omega arith) (omega arith);
      size = λ j m. window_total_size (i + 1 - k + j) (omega arith) (omega arith);
    }

    -- the mean of k means stands for the sum of the last k window sums over n · k
    pub mean_of_means_about : k ≤ 1023 → (i : ℕ) → n + k ≤ i + 2 → i < l
        → About binary64 (mean k (mean n f) i) (window_total k (window_total n t) i) (n * k) (n * k * (2 ^ 34 + 2 ^ 26))
    unfolding mean window_sum
    mean_of_means_about L i b h =
        let s = means_standing i b h in
        let d = total_size (window_total n t) (i + 1 - k) k (n * 2 ^ 24) s.size in
        rw (from_bar_lem (k - 1) plus_zero _ i (omega arith))
        (about_weaken (n * k * (2 ^ 34 + 2 ^ 26))
        (about_div 25 k (sum_about 34 k s (lit≤ tt) (sum_room n k (2 ^ 53) N L (lit≤ tt))) K (omega arith) (lit≤ tt)
        (mean_room n k (2 ^ 53) _ N K (lit≤ tt) d))
        (omega arith))
