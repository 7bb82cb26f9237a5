-- Means by running sums: how they are written, and no look-ahead. Assumes nothing.
use mathlib.Core.Path.{◌≡◌, refl, sym, ap, ◌∙◌}
use mathlib.Core.Bool.{Bool, true, false, not}
use mathlib.Core.List.{List}
use Prim.Native.Nat.{ℕ, ◌+◌, ◌-◌, ◌^◌, ◌<◌, ◌≤◌}
use native.Mathlib.Omega.{arith}
use borrow.Author.Tests.{le-leb, lt-leb}
use lib.Dec.{T, ltb, ltb→lt, nltb→le}
use lib.IntN.{pos}
use lib.ListN.{length, set}
use lib.Ieee.{Float, nan, binary64}
use Rattle.rounding_laws.proofs.About.{zero_is}
use Rattle.rounding_laws.proofs.Quotient.{Whole, quotient_zero}
use Rattle.cells.specs.Line.{Line, line, plus_zero, from_bar, Causal}
use Rattle.cells.proofs.Line.{from_bar_lem, before_bar}
use Rattle.cells.specs.Written.{Writing}
use Rattle.cells.proofs.Written.{writing_same, stood, step, then_written, read_back}
use Rattle.cells.specs.inner.Leads.{Led}
use Rattle.cells.proofs.Leads.{lead_stands}
use Rattle.limits.specs.Limits.{Window}
use Rattle.windows.specs.Window.{window_sum, over, add_difference}
use Rattle.windows.specs.inner.RunningSums.{running_sums}
use Rattle.windows.specs.inner.Sums.{Running}
use Rattle.windows.proofs.RunningSums.{causal_running_sums}
use Rattle.windows.proofs.Window.{first_running, same_bar}
use Rattle.windows.specs.inner.Means.{running_mean, on_from, running_means}

-- ---- a line from a bar on, beside what stood there

module _ (b : ℕ) (f : Line) (old : List Float) where
  on_before : (i : ℕ) → i < b → on_from b f old i ≡ line old i
  unfolding on_from
  on_before i h = simp (lt-leb b i h)

  on_from_lem : (i : ℕ) → b ≤ i → on_from b f old i ≡ f i
  unfolding on_from
  on_from_lem i h = simp (le-leb b i h)

  -- nothing is written yet
  pub none_on : Writing b (on_from b f old) old old
  none_on = stood nan on_before

-- the first b cells of g, and its other cells after them
goes_on : {b k : ℕ} (f : Line) {g : Line} {old mid now : List Float} → Writing b g old mid
    → Writing k (on_from b f mid) mid now → ((i : ℕ) → b ≤ i → f i ≡ g i) → (b ≤ k) × (k ≤ length old)
    → Writing k g old now
goes_on {b} {k} f {g} {old} {mid} w v e (p, q) =
    writing_same (then_written w v p) (λ i l. same i l (ltb i b) (ltb→lt i b) (nltb→le i b))
  where
    same : (i : ℕ) → i < k → (t : Bool) → (T t → i < b) → (T (not t) → b ≤ i) → on_from b f mid i ≡ g i
    same i l true x y = let h = x tt in on_before b f mid i h ∙ read_back i nan w (omega arith)
    same i l false x y = let h = y tt in on_from_lem b f mid i h ∙ e i h

-- ---- the means

-- the mean of bar i
mean_at : {n : ℕ} {f : Line} (i : ℕ) {x : Float} → Running add_difference n f (i + 1) x → over n x ≡ running_mean n f i
mean_at {n} i r = ap (over n) r.is

-- the same from bar n on
pub mean_on : {n : ℕ} {f : Line} (old : List Float) (i : ℕ) {x : Float} → Running add_difference n f (i + 1) x → n ≤ i
    → over n x ≡ on_from n (running_mean n f) old i
mean_on {n} {f} old i r h = mean_at i r ∙ sym (on_from_lem n (running_mean n f) old i h)

-- a lead, the mean of the first n bars after it, and the others after that
pub led_means : {n bars r : ℕ} {d x : Float} (f : Line) {old mid now : List Float} → Led (n - 1) bars d r old mid
    → Window n → x ≡ window_sum n f (n - 1)
    → (let mid' = set mid (n - 1) (over n x) in Writing bars (on_from n (running_mean n f) mid') mid' now)
    → (n ≤ bars) × (bars ≤ length old) → Writing bars (from_bar (n - 1) d (running_mean n f)) old now
led_means {n} {d = d} f led w e v (p, q) =
    let N = w.some in
    let first = mean_at (n - 1) (same_bar (first_running n e N) (omega arith)) in
    goes_on (running_mean n f)
    (step (n - 1) n (then_written led.lead (lead_stands _ led) (omega arith))
    (first ∙ sym (from_bar_lem (n - 1) d (running_mean n f) (n - 1) (omega arith))) (omega arith))
    v
    (λ i h. sym (from_bar_lem (n - 1) d _ i (omega arith)))
    (p, q)

-- ---- with a lead of 0.0

-- 0.0 / n
pub zero_over : (n : ℕ) → 0 < n → n ≤ 2 ^ 53 → over n plus_zero ≡ plus_zero
zero_over n N M =
    let whole : Whole binary64 (pos 0) n = record { some = N; size = omega arith; divisor = M } in
    rw zero_is at (quotient_zero whole)

-- a lead of 0.0 has the means of a running sum that is 0.0 before bar n - 1
pub running_means_lem : {n k : ℕ} (f : Line) {old now : List Float} → Window n
    → Writing k (from_bar (n - 1) plus_zero (running_mean n f)) old now → Writing k (running_means n f) old now
unfolding running_sums
running_means_lem {n} f w v = writing_same v (λ i l. same i (ltb i (n - 1)) (ltb→lt i (n - 1)) (nltb→le i (n - 1)))
  where
    same : (i : ℕ) → (t : Bool) → (T t → i < n - 1) → (T (not t) → n - 1 ≤ i)
        → from_bar (n - 1) plus_zero (running_mean n f) i ≡ running_means n f i
    same i true x y =
        rw (before_bar (n - 1) plus_zero (running_mean n f) i (x tt), before_bar (n - 1) plus_zero _ i (x tt))
        (sym (zero_over n w.some (omega (arith, w.narrow))))
    same i false x y =
        rw (from_bar_lem (n - 1) plus_zero (running_mean n f) i (y tt), from_bar_lem (n - 1) plus_zero _ i (y tt)) refl

-- no look-ahead
pub causal_running_means : (n : ℕ) → 0 < n → Causal (running_means n)
causal_running_means n N f g b s = ap (over n) (causal_running_sums n N f g b s)
