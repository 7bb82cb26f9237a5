-- The two-average rule on whole ticks is decided exactly. Assumes nothing.
use mathlib.Core.Path.{◌≡◌}
use mathlib.Core.Bool.{cond}
use Prim.Native.Nat.{ℕ, ◌+◌, ◌-◌, ◌<◌, ◌≤◌, ◌^◌}
use native.Mathlib.Omega.{arith}
use lib.IntN.{ℤ, pos, neg_ℤ, nat_abs, ◌+ℤ◌, ◌*ℤ◌, +ℤ_assoc}
use lib.Signed.{lt_z}
use lib.Ieee.{binary64}
use Rattle.rounding.specs.Leaves.{plus_one, minus_one}
use Rattle.rounding_laws.proofs.Integers.{abs_add}
use Rattle.rounding_laws.proofs.Whole.{add_whole, sub_whole}
use Rattle.rounding_laws.proofs.Quotient.{quotient, quotient_sign}
use Rattle.cells.specs.Line.{Line, plus_zero}
use Rattle.cells.proofs.Line.{from_bar_lem}
use Rattle.exact_ticks.proofs.Exact.{TickLine, Slides, running_exact, window_size, window_whole}
use Rattle.windows.specs.Window.{window_total, add_then_subtract}
use Rattle.exact_ticks.proofs.Errors.{products}
use Rattle.rules_double.specs.Double.{running_mean, double_line}

-- the new price added, and then the old one subtracted
subtract_slides : Slides add_then_subtract
subtract_slides = record {
  exact = λ s new old p q r.
      rw (add_whole binary64 s new (omega arith) (omega arith), ← +ℤ_assoc s new (neg_ℤ old))
      (sub_whole binary64 (s +ℤ new) old (omega (arith, abs_add s new)) (omega arith));
}

module _ {l : ℕ} {f : Line} {t : ℕ → ℤ} (w : TickLine l f t) where
  running_mean_exact : (n i : ℕ) → 0 < n → n ≤ 2 ^ 12 → n ≤ i + 1 → i < l → running_mean n f i
      ≡ quotient binary64 (window_total n t i) n
  unfolding running_mean
  running_mean_exact n i N M b h = rw (running_exact w subtract_slides n (i + 1 - n) N M (omega arith))

  -- +1 exactly when m times the last n prices' sum is at least n times the last m prices' sum, else -1
  pub double_exact : (n m i : ℕ) → 0 < n → n < m → m ≤ 2 ^ 12 → m ≤ i + 1 → i < l
      → double_line n m f i ≡ cond (lt_z (window_total n t i *ℤ pos m) (window_total m t i *ℤ pos n)) minus_one plus_one
  unfolding double_line
  double_exact n m i N L M b h =
      let x = window_size w (i + 1 - n) n (omega arith) in
      let y = window_size w (i + 1 - m) m (omega arith) in
      rw (
        from_bar_lem (m - 1) plus_zero _ i (omega arith),
        running_mean_exact n i N (omega arith) (omega arith) h,
        running_mean_exact m i (omega arith) M b h,
      )
      (quotient_sign (window_whole w n N (omega arith) (i + 1 - n) (omega arith))
      (window_whole w m (omega arith) M (i + 1 - m) (omega arith))
      (products (nat_abs (window_total n t i)) (nat_abs (window_total m t i)) n m x y (omega arith) M))
