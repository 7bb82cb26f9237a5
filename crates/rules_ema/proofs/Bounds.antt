-- The exponential rule's average stays finite, so that each of its cells has a sign. Assumes nothing.
use mathlib.Core.Path.{◌≡◌, refl}
use mathlib.Core.Bool.{false}
use Prim.Native.Nat.{ℕ, zero, suc, ◌+◌, ◌-◌, ◌*◌, ◌^◌, ◌<◌, ◌≤◌}
use native.Mathlib.Nat.{le_refl}
use native.Mathlib.Omega.{arith}
use lib.Dec.{lit≤, lit<}
use lib.IntN.{pos}
use lib.Ieee.{Float, binary64, sub, of_int}
use Rattle.rounding.specs.Leaves.{two}
use Rattle.rounding_laws.proofs.Bounds.{AtMost, add_at_most, sub_at_most}
use Rattle.rounding_laws.proofs.Value.{div_at}
use Rattle.rounding_laws.proofs.Whole.{whole_value}
use Rattle.rounding_order.proofs.Within.{Within, within_whole, rest_share, share_at_most}
use Rattle.cells.specs.Line.{Line, plus_zero}
use Rattle.cells.specs.Recur.{recur, carried}
use Rattle.cells.proofs.Line.{from_bar_lem}
use Rattle.windows.specs.Window.{mean}
use Rattle.exact_ticks.proofs.Bounds.{Bounded, mean_bounded}
use Rattle.averages.specs.Blend.{blend, ema_alpha}
use Rattle.rules_ema.specs.SingleEma.{ema_of_means}

-- the weight of a new bar lies from 0 to 1
pub alpha_share : (n : ℕ) → (0 < n) × (n ≤ 2 ^ 12) → Within false 1 1 (ema_alpha n)
alpha_share n (N, M) =
    rw (div_at two (of_int binary64 (pos (n + 1))) false 2 1 false (n + 1) 1 (lit< tt) (lit< tt) (omega arith)
    (refl, refl) (whole_value binary64 (pos (n + 1)) (omega arith)) binary64)
    (within_whole false (2 * 1) ((n + 1) * 1) 1 (omega arith) (lit≤ tt) (omega arith))

-- a blend is at most the two numbers together
blend_at_most : {alpha last x : Float} {a b : ℕ} → Within false 1 1 alpha → AtMost a last → AtMost b x
    → (a + b ≤ 2 ^ 53) → AtMost (a + b) (blend alpha last x)
blend_at_most w p q h =
    add_at_most (share_at_most w q (omega arith)) (share_at_most (rest_share w) p (omega arith)) (omega arith)

module _ (n : ℕ) (f : Line) (i : ℕ) (N : (0 < n) × (n ≤ 2 ^ 12)) (h : Bounded (2 ^ 30) f i) where
  means : Bounded (2 ^ 30) (mean n f) i
  means = mean_bounded n N.0 N.1 f i h

  -- each step adds at most 2 ^ 30
  steps_bounded : (start k : ℕ) → start + k ≤ i → k < 2 ^ 16
      → AtMost ((k + 1) * 2 ^ 30) (recur (mean n (mean n f) start)
      (λ j last. blend (ema_alpha n) last (mean n f (start + 1 + j))) k)
  unfolding recur
  steps_bounded start zero l m = mean_bounded n N.0 N.1 (mean n f) i means start (omega arith)
  steps_bounded start (suc k) l m =
      let more : (k + 1) * 2 ^ 30 + 2 ^ 30 ≡ (suc k + 1) * 2 ^ 30 = omega arith in
      rw (← more) (blend_at_most (alpha_share n N) (steps_bounded start k (omega arith) (omega arith))
      (means (start + 1 + k) (omega arith)) (omega arith))

  -- so the price less the average is finite
  pub gap_bounded : (start : ℕ) → start ≤ i → i < 2 ^ 16
      → AtMost (2 ^ 48) (sub binary64 (f i) (ema_of_means start n f i))
  unfolding ema_of_means carried
  gap_bounded start l m =
      rw (from_bar_lem start plus_zero (λ j. recur (mean n (mean n f) start)
      (λ k last. blend (ema_alpha n) last (mean n f (start + 1 + k))) (j - start)) i l)
      (sub_at_most (h i (le_refl i)) (steps_bounded start (i - start) (omega arith) (omega arith)) (omega arith))
