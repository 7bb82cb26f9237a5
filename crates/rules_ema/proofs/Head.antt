-- The exponential rule where the first mean is not 0: then the means up to bar 2n - 2 are enough to start. Assumes
-- nothing.
use mathlib.Core.Path.{◌≡◌, refl, sym, ap, ◌∙◌}
use mathlib.Core.Bool.{true, false}
use mathlib.Core.List.{List}
use Prim.Native.Nat.{ℕ, ◌+◌, ◌-◌, ◌*◌, ◌<◌, ◌≤◌}
use native.Mathlib.Omega.{arith}
use lib.ListN.{length, take}
use lib.Seq.{get_or-take}
use lib.Ieee.{Float, nan, eq}
use Rattle.cells.specs.Line.{Line, line, plus_zero}
use Rattle.cells.proofs.Line.{before_bar}
use Rattle.cells.specs.Written.{Writing}
use Rattle.cells.proofs.Written.{read_back, writing_same, ends}
use Rattle.cells.proofs.Parts.{taken_long}
use Rattle.cells.specs.Search.{non_zero}
use Rattle.windows.specs.Window.{over, window_sum, mean}
use Rattle.windows.proofs.Window.{mean_of, first_running, same_bar}
use Rattle.windows.proofs.RunningSums.{running_sum_at}
use Rattle.windows.specs.inner.Means.{running_means}
use Rattle.windows.proofs.Means.{causal_running_means}
use Rattle.rules_ema.specs.SingleEma.{first_usable, single_ema_from, single_ema_line}
use Rattle.rules_ema.proofs.Search.{usable_found}
use Rattle.rules_ema.specs.inner.ByMargins.{HeadWritten}

-- the means by running sums of the first k bars
pub head_means : (n k : ℕ) (s : List Float) {old mid : List Float}
    → Writing (length (take k s)) (running_means n (line (take k s))) old mid → (0 < n) × (k ≤ length s)
    → Writing k (running_means n (line s)) old mid
head_means n k s w (some, h) =
    writing_same (ends w (taken_long k s h))
    (λ i l. causal_running_means n some (line (take k s)) (line s) i (λ j m. get_or-take k s j nan (omega arith)))

-- no mean before bar n - 1 is usable
none_early : (n : ℕ) (f : Line) (j : ℕ) → j < n - 1 → non_zero (mean n f j) ≡ false
unfolding mean eq
none_early n f j m = rw (before_bar (n - 1) plus_zero (λ i. over n (window_sum n f i)) j m)

starts_early : (l n : ℕ) (f : Line) → non_zero (mean n f (n - 1)) ≡ true → (0 < n) × (n ≤ l)
    → first_usable l (mean n f) ≡ n - 1
starts_early l n f e (some, h) = usable_found (n - 1) l (mean n f) (none_early n f) e (omega arith)

-- the first mean by a running sum is summed afresh
first_running_mean : (n : ℕ) (f : Line) → 0 < n → running_means n f (n - 1) ≡ mean n f (n - 1)
first_running_mean n f N =
    let bar : n ≡ n - 1 + 1 = omega arith in
    let first = same_bar (first_running n refl N) bar in
    ap (over n) (sym (running_sum_at (n - 1) first (omega arith))) ∙ mean_of n (n - 1) f refl (omega arith)

-- where it is not 0, the rule's cells begin at bar 2n - 2
pub early_line : (l n : ℕ) (f : Line) {seed : Float} {old mid : List Float} → HeadWritten n f seed old mid
    → non_zero (line mid (n - 1)) ≡ true → (0 < n) × (2 * n - 2 < l) × (l ≤ length old)
    → single_ema_line l n f ≡ single_ema_from (2 * n - 2) n f
unfolding single_ema_line
early_line l n f w e (some, h, room) =
    let cell = read_back (n - 1) nan w.cells (omega arith) ∙ first_running_mean n f some in
    let first = starts_early l n f (rw (← cell) e) (omega arith) in
    let start : n - 1 + (n - 1) ≡ 2 * n - 2 = omega arith in
    rw (first, start)
