-- Running sums of whole numbers are exact, and whole numbers in turn. Assumes nothing.
use mathlib.Core.Path.{◌≡◌, refl, sym, ap}
use mathlib.Core.Bool.{Bool, true, false, not}
use Prim.Native.Nat.{ℕ, zero, suc, ◌+◌, ◌-◌, ◌*◌, ◌^◌, ◌<◌, ◌≤◌, zero-le}
use native.Mathlib.Nat.{mul-one, zero-lt-suc}
use native.Mathlib.Omega.{arith}
use lib.Dec.{T, ltb, ltb→lt, nltb→le}
use lib.IntN.{ℤ, pos, negsuc, neg_ℤ, nat_abs, ◌*ℤ◌}
use lib.Ieee.{binary64, of_int}
use Rattle.rounding_laws.proofs.Integers.{abs_neg}
use Rattle.rounding_laws.proofs.About.{zero_is}
use Rattle.cells.specs.Line.{Line, plus_zero, from_bar}
use Rattle.cells.proofs.Line.{before_bar, from_bar_lem}
use Rattle.windows.specs.Window.{window_total}
use Rattle.exact_ticks.proofs.Exact.{WholeLine, window_size, difference_slides, running_whole}
use Rattle.windows.specs.inner.RunningSums.{running_sums}

pub times_one : (z : ℤ) → z *ℤ pos 1 ≡ z
times_one (pos a) = ap pos (mul-one a)
times_one (negsuc a) = ap (λ (k : ℕ). neg_ℤ (pos k)) (mul-one (suc a))

pub size_times : (z : ℤ) (n : ℕ) → nat_abs (z *ℤ pos n) ≡ nat_abs z * n
size_times (pos a) n = refl
size_times (negsuc a) n = abs_neg (pos (suc a * n))

pub some_abs : (z : ℤ) → ¬ (z ≡ pos 0) → 0 < nat_abs z
some_abs (pos zero) h = absurd (h refl)
some_abs (pos (suc a)) h = zero-lt-suc a
some_abs (negsuc a) h = zero-lt-suc a

module _ {b l : ℕ} {f : Line} {t : ℕ → ℤ} (w : WholeLine b l f t) (n : ℕ) (N : 0 < n) (M : n * b ≤ 2 ^ 52) where
  pub running_sum_exact : (i : ℕ) → n ≤ i + 1 → i < l → running_sums n f i ≡ of_int binary64 (window_total n t i)
  unfolding running_sums
  running_sum_exact i p h = rw (from_bar_lem (n - 1) plus_zero _ i (omega arith))
      (running_whole w difference_slides n (i + 1 - n) N M (omega arith))

  -- so they are whole numbers in turn
  pub running_sums_whole : WholeLine (n * b) l (running_sums n f) (from_bar (n - 1) (pos 0) (window_total n t))
  unfolding running_sums
  running_sums_whole = record {
    is = λ i h. (at i h (ltb i (n - 1)) (ltb→lt i (n - 1)) (nltb→le i (n - 1))).0;
    small = λ i h. (at i h (ltb i (n - 1)) (ltb→lt i (n - 1)) (nltb→le i (n - 1))).1;
  }
    where
      at : (i : ℕ) → i < l → (u : Bool) → (T u → i < n - 1) → (T (not u) → n - 1 ≤ i)
          → let z = from_bar (n - 1) (pos 0) (window_total n t) i in
          (running_sums n f i ≡ of_int binary64 z) × (nat_abs z ≤ n * b)
      at i h true p q = rw (
        before_bar (n - 1) plus_zero _ i (p tt),
        before_bar (n - 1) (pos 0) (window_total n t) i
            (p tt),
      ) (sym (zero_is binary64), zero-le)
      at i h false p q =
          let m = q tt in
          rw (from_bar_lem (n - 1) (pos 0) (window_total n t) i m)
          (running_sum_exact i (omega arith) h, window_size w (i + 1 - n) n (omega arith))
