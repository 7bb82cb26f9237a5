-- The means of whole ticks, from running sums, which are exact. Assumes nothing.
use mathlib.Core.Path.{◌≡◌, sym, ◌∙◌}
use mathlib.Core.Bool.{Bool, true, false, not}
use mathlib.Core.List.{List}
use Prim.Native.Nat.{ℕ, ◌-◌, ◌<◌, ◌≤◌}
use native.Mathlib.Omega.{arith}
use lib.Dec.{T, ltb, ltb→lt, nltb→le}
use lib.ListN.{length}
use lib.Ieee.{Float, binary64, fits}
use Rattle.values.specs.Accepted.{tick, all}
use Rattle.cells.specs.Line.{line, plus_zero}
use Rattle.cells.proofs.Line.{before_bar}
use Rattle.limits.specs.Limits.{Window}
use Rattle.windows.specs.Window.{mean}
use Rattle.windows.specs.inner.RunningSums.{running_sums}
use Rattle.windows.specs.inner.Means.{running_means}
use Rattle.windows.proofs.Means.{zero_over}
use Rattle.values.proofs.All.{and_parts}
use Rattle.window_means.specs.inner.Ticks.{longest_afresh, long_ticks}
use Rattle.exact_ticks.proofs.Exact.{mean_exact}
use Rattle.exact_ticks.proofs.RunningSums.{running_sum_exact}
use Rattle.exact_ticks.proofs.TickMeans.{tick_line}

-- the mean at every bar is the running sum there over n
pub running_mean_lem : (s : List Float) (n i : ℕ) → ((j : ℕ) → T (fits binary64 (line s j))) → all tick s ≡ true
    → Window n
    → i < length s
    → running_means n (line s) i ≡ mean n (line s) i
unfolding running_sums mean
running_mean_lem s n i floats ticks window l = go (ltb i (n - 1)) (ltb→lt i (n - 1)) (nltb→le i (n - 1))
  where
    go : (t : Bool) → (T t → i < n - 1) → (T (not t) → n - 1 ≤ i) → running_means n (line s) i ≡ mean n (line s) i
    go true p q = rw (before_bar (n - 1) plus_zero _ i (p tt), before_bar (n - 1) plus_zero _ i (p tt))
        (zero_over n window.some (omega (arith, window.narrow)))
    go false p q =
        let w = tick_line s (λ j l. floats j) ticks in
        let h = q tt in
        let N = window.some in
        let M = window.narrow in
        rw (running_sum_exact w n N (omega arith) i (omega arith) l)
        (sym (mean_exact w n N (omega arith) i (omega arith) l))

-- prices that are known to be long ticks are ticks
pub known_ticks : (n : ℕ) (s : List Float) {t : Bool} → t ≡ long_ticks n s → t ≡ true → all tick s ≡ true
known_ticks n s e h = (and_parts (ltb longest_afresh n) (all tick s) (sym e ∙ h)).1
