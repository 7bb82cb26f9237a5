-- The average by running sums, bar by bar, and what decides: on any prices the margin, since it is near the rule's own;
-- on whole ticks any distance, since it is the rule's own. Assumes nothing.
use mathlib.Core.Path.{◌≡◌, refl, sym, ap, ◌∙◌}
use mathlib.Core.Bool.{Bool, true, false}
use mathlib.Core.List.{List}
use Prim.Native.Nat.{ℕ, zero, suc, ◌+◌, ◌-◌, ◌*◌, ◌<◌, ◌≤◌}
use native.Mathlib.Omega.{arith}
use lib.Dec.{T}
use lib.ListN.{length}
use lib.Ieee.{Float, binary64, add, sub, fits}
use Rattle.limits.specs.Limits.{Window}
use Rattle.rounding.specs.Leaves.{sign_of}
use Rattle.rounding.specs.Nearest.{in_units}
use Rattle.cells.specs.Line.{Line, line, plus_zero}
use Rattle.cells.proofs.Carried.{carried_seed, carried_next}
use Rattle.values.specs.Accepted.{tick, all}
use Rattle.checks.specs.inner.Due.{Priced}
use Rattle.windows.specs.Window.{over, window_sum, mean, add_difference}
use Rattle.windows.specs.inner.Sums.{Running}
use Rattle.windows.proofs.Window.{causal_mean, next_running}
use Rattle.windows.proofs.RunningSums.{running_sum_at}
use Rattle.exact_ticks.proofs.Exact.{sum_whole, running_whole, difference_slides}
use Rattle.exact_ticks.proofs.TickMeans.{tick_line}
use Rattle.averages.specs.Blend.{blend, ema_alpha}
use Rattle.windows.specs.inner.Means.{running_means}
use Rattle.margins.specs.inner.Margin.{largest_of, margin_of}
use Rattle.margins.proofs.Relative.{roof}
use Rattle.margins.proofs.Sums.{Windowed}
use Rattle.margins.proofs.Bound.{Largest, room_for, margin_wide}
use Rattle.margins.proofs.Twice.{known, prices}
use Rattle.window_means.specs.inner.Ticks.{long_ticks}
use Rattle.window_means.proofs.Ticks.{running_mean_lem, known_ticks}
use Rattle.rules_ema.specs.SingleEma.{ema_of_means, single_ema_from}
use Rattle.rules_ema.specs.inner.Far.{distance_of, decided}
use Rattle.rules_ema.proofs.SingleEma.{first_average, next_average, position_at}
use Rattle.rules_ema.specs.inner.ByMargins.{slid_from, running_ema, Decides}
use Rattle.rules_ema.proofs.ByMargins.{Beside, begins, goes_on, decides}

-- ---- the sum and the average, bar by bar

module _ (start n : ℕ) (f : Line) where
  pub first_slid : {x : Float} → x ≡ window_sum n f start → x ≡ slid_from start n f start
  unfolding slid_from
  first_slid e = e ∙ sym (carried_seed _ _ start _ _)

  pub next_slid : (i : ℕ) {x y : Float} → x ≡ slid_from start n f i → y ≡ add_difference x (f (i + 1)) (f (i + 1 - n))
      → start ≤ i → y ≡ slid_from start n f (i + 1)
  unfolding slid_from
  next_slid i p e h =
      let last : i + 1 - 1 ≡ i = omega arith in
      let next = carried_next plus_zero (add binary64) start (window_sum n f start)
      (λ j. sub binary64 (f j) (f (j - n))) (i + 1) (omega arith) in
      e ∙ rw p (sym (rw last at next))

  pub first_running_average : {x : Float} → x ≡ mean n (running_means n f) start → x ≡ running_ema start n f start
  unfolding running_ema
  first_running_average e = e ∙ sym (carried_seed _ _ start _ _)

  pub next_running_average : (i : ℕ) {x y sum : Float} → x ≡ running_ema start n f i → sum ≡ slid_from start n f (i + 1)
      → y ≡ blend (ema_alpha n) x (over n sum) → start ≤ i → y ≡ running_ema start n f (i + 1)
  unfolding running_ema
  next_running_average i p q e h =
      let last : i + 1 - 1 ≡ i = omega arith in
      let next = carried_next plus_zero (blend (ema_alpha n)) start (mean n (running_means n f) start)
      (λ j. over n (slid_from start n f j)) (i + 1) (omega arith) in
      e ∙ rw (p, q) (sym (rw last at next))

-- the position of a bar that is decided
pub decided_at : (start n : ℕ) (f : Line) {d x : Float} {i l : ℕ} → Decides d start n f l → x ≡ running_ema start n f i
    → decided d (f i) x ≡ true → (start ≤ i) × (i < l) → sign_of (sub binary64 (f i) x) ≡ single_ema_from start n f i
decided_at start n f {i = i} p e far m = rw e (p.position i m (rw e at far))

-- what holds at bar `start`, and goes on from each bar to the next, holds up to bar l - 1
each_bar : {P : ℕ → Type 0} (start l : ℕ) → P start → ((i : ℕ) → (start ≤ i) × (i + 1 < l) → P i → P (i + 1))
    → (i : ℕ) → (start ≤ i) × (i < l) → P i
each_bar {P} start l p step i (h, k) =
    let bar : start + (i - start) ≡ i = omega arith in
    rw bar at (go (i - start) (omega arith))
  where
    go : (j : ℕ) → start + j < l → P (start + j)
    go zero m = let none : start + 0 ≡ start = omega arith in rw none p
    go (suc j) m =
        let next : start + suc j ≡ start + j + 1 = omega arith in
        rw next (step (start + j) (omega arith) (go j (omega arith)))

-- ---- on any accepted prices

module _ (s : List Float) (n : ℕ) {out work : ℕ} (p : Priced 8 n s out work)
    (floats : (j : ℕ) → T (fits binary64 (line s j))) (start : ℕ) (full : n ≤ start + 1) where
  window : Windowed (in_units binary64 (largest_of (line s) (length s))) n (length s) (line s)
  window = prices s n p.values floats p.window p.short

  largest : Largest (line s) (length s) (largest_of (line s) (length s))
  largest = known s n p.values floats p.window p.short

  room : 16 * (n * (in_units binary64 (largest_of (line s) (length s)) + 1)) < roof
  room = room_for _ n largest.low (omega (arith, p.window.narrow))

  beside : (i : ℕ) → (start ≤ i) × (i < length s)
      → Beside (in_units binary64 (largest_of (line s) (length s))) n (line s) start i (slid_from start n (line s) i)
      (running_ema start n (line s) i)
  beside i (h, k) =
      each_bar start (length s)
      (begins window p.short room start full (sym (first_slid start n (line s) refl))
      (sym (first_running_average start n (line s) refl)) (omega arith))
      (λ j m b. goes_on window p.short room start full b (sym (next_slid start n (line s) j refl refl m.0))
      (sym (next_running_average start n (line s) j refl refl refl m.0)) m)
      i (h, k)

  -- the margin decides
  margin_decides : {d : Float} → d ≡ margin_of (largest_of (line s) (length s)) → Decides d start n (line s) (length s)
  margin_decides e = record {
    position = λ i m far.
        let (u, g, wide) = margin_wide largest.plus largest.low in
        position_at start n (line s) i refl
        (decides window p.short room start full (beside i m) g wide (rw e at far) m.1) m.0;
  }

-- ---- on whole ticks

module _ (s : List Float) (n : ℕ) (floats : (j : ℕ) → T (fits binary64 (line s j))) (ticks : all tick s ≡ true)
    (window : Window n) (start : ℕ) (full : n ≤ start + 1) where
  -- a window summed afresh is the running sum
  fresh_running : {x : Float} → x ≡ window_sum n (line s) start → start < length s
      → Running add_difference n (line s) (start + 1) x
  unfolding window_sum
  fresh_running e h =
      let w = tick_line s (λ j l. floats j) ticks in
      let N = window.some in
      let M = window.narrow in
      record {
        is = e ∙ sum_whole w (start + 1 - n) n N (omega arith) (omega arith)
            ∙ sym (running_whole w difference_slides n (start + 1 - n) N (omega arith) (omega arith));
      }

  slid_running : (i : ℕ) → (start ≤ i) × (i < length s)
      → Running add_difference n (line s) (i + 1) (slid_from start n (line s) i)
  slid_running i (h, k) =
      each_bar {P = λ j. Running add_difference n (line s) (j + 1) (slid_from start n (line s) j)} start (length s)
      (fresh_running (sym (first_slid start n (line s) refl)) (omega arith))
      (λ j m r. rw (← next_slid start n (line s) j refl refl m.0) (next_running r (omega arith)))
      i (h, k)

  -- and over n it is the mean, so that the average is the rule's own
  same_average : (i : ℕ) → (start ≤ i) × (i < length s)
      → running_ema start n (line s) i ≡ ema_of_means start n (line s) i
  same_average i (h, k) =
      each_bar start (length s)
      (sym (first_running_average start n (line s) refl)
      ∙ first_average start n (line s)
      (causal_mean n _ _ start (λ j m. running_mean_lem s n j floats ticks window (omega arith))))
      (λ j m e. sym (next_running_average start n (line s) j refl refl refl m.0)
      ∙ next_average start n (line s) j e (sum_mean (j + 1) (omega arith)) refl m.0)
      i (h, k)
    where
      sum_mean : (j : ℕ) → (start ≤ j) × (j < length s) → over n (slid_from start n (line s) j) ≡ mean n (line s) j
      sum_mean j m =
          ap (over n) (running_sum_at j (slid_running j m) (omega arith))
          ∙ running_mean_lem s n j floats ticks window m.1

  -- any distance decides
  ticks_decide : {d : Float} → Decides d start n (line s) (length s)
  ticks_decide = record { position = λ i m far. position_at start n (line s) i (same_average i m) refl m.0 }

-- ---- the distance that is taken

pub distance_decides : (s : List Float) (n : ℕ) {out work : ℕ} → Priced 8 n s out work
    → ((j : ℕ) → T (fits binary64 (line s j))) → (start : ℕ) → n ≤ start + 1 → (t : Bool) → t ≡ long_ticks n s
    → {d : Float} → d ≡ distance_of t s → Decides d start n (line s) (length s)
distance_decides s n p floats start full true e is =
    ticks_decide s n floats (known_ticks n s e refl) p.window start full
distance_decides s n p floats start full false e is = margin_decides s n p floats start full is
