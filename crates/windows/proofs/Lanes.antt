-- Bars side by side, each with a lane of its own: their lanes as a loop writes them, and their sums. Assumes nothing.
use mathlib.Core.Path.{◌≡◌, refl, ap, ◌∙◌}
use Rattle.std.proofs.Common.{List, [], ◌∷◌, map, replicate}
use Prim.Native.Nat.{ℕ, ◌+◌, ◌<◌, ◌≤◌}
use native.Mathlib.Omega.{arith}
use lib.ListN.{length}
use lib.Ieee.{Float, nan, binary64, add}
use Rattle.std.proofs.lemmas.List.{get_or-map, get_or-replicate, length-map, length-replicate}
use Rattle.cells.specs.Line.{Line, line, minus_zero}
use Rattle.cells.specs.Written.{Writing, written}
use Rattle.cells.proofs.Written.{read_back, getd_untouched, length_written, ends}
use Rattle.windows.specs.Window.{window_sum}
use Rattle.windows.specs.inner.Sums.{Summing}
use Rattle.windows.specs.inner.Lanes.{each_plus, LanesOf}
use Rattle.windows.proofs.Window.{none_summed, added_at, window_sum_lem}

-- ---- lanes that a loop writes

-- a lane that is not written yet is as it was
pub lane_before : {k : ℕ} {g : Line} {old now : List Float} (i : ℕ) → Writing k g old now → k ≤ i
    → line now i ≡ line old i
lane_before {k} {g} {old} i w h = rw w.is (getd_untouched k g old i nan h)

-- all lanes are written
pub lanes_written : {N i : ℕ} {f g : Line} {old now : List Float} → Writing N g old now → length old ≡ N
    → ((k : ℕ) → k < N → g k ≡ f (i + k)) → LanesOf N f i now
lanes_written w l h = record {
  long = w.long ∙ l;
  lane = λ k m. read_back k nan w (omega arith) ∙ h k m;
}

written_each : (h : Float → Float) (old : List Float) → written (length old) (λ k. h (line old k)) old ≡ map h old
written_each h [] = refl
written_each h (x ∷ old) = ap (λ (t : List Float). h x ∷ t) (written_each h old)

-- each lane is written by the same function of what it held
pub each_written : {k : ℕ} (h : Float → Float) {old now : List Float} → Writing k (λ j. h (line old j)) old now
    → k ≡ length old → now ≡ map h old
each_written h {old} w e = rw (w.is, e) (written_each h old)

-- the same function of each lane
pub each_lane : {N i : ℕ} {f g : Line} (h : Float → Float) {lanes : List Float} → LanesOf N f i lanes
    → ((k : ℕ) → k < N → h (f (i + k)) ≡ g (i + k)) → LanesOf N g i (map h lanes)
each_lane h {lanes} r e = record {
  long = length-map lanes h ∙ r.long;
  lane = λ k m.
      let l = r.long in
      get_or-map h lanes k nan nan (omega arith) ∙ ap h (r.lane k m) ∙ e k m;
}

-- the same lanes, which are the cells of another line too
pub lanes_moved : {N a b : ℕ} {f g : Line} {lanes : List Float} → LanesOf N f a lanes
    → ((k : ℕ) → k < N → f (a + k) ≡ g (b + k)) → LanesOf N g b lanes
lanes_moved r e = record { long = r.long; lane = λ k m. r.lane k m ∙ e k m }

-- ---- sums

-- lane j holds the sum of k cells of F j, from bar a + j on: what the loops that sum side by side keep
pub record SummingLanes (N : ℕ) (F : ℕ → Line) (a k : ℕ) (lanes : List Float) : Type 0 where
  pub long : length lanes ≡ N
  pub lane : (j : ℕ) → j < N → Summing minus_zero (F j) (a + j) k (line lanes j)

-- none is summed yet
pub none_of_lanes : {N : ℕ} {F : ℕ → Line} {a : ℕ} → SummingLanes N F a 0 (replicate N minus_zero)
none_of_lanes {N} = record {
  long = length-replicate N minus_zero;
  lane = λ j m. rw (get_or-replicate N j minus_zero nan m) none_summed;
}

-- one more in each
pub more_in_lanes : {N : ℕ} {F : ℕ → Line} {a k : ℕ} {old now : List Float} → SummingLanes N F a k old
    → Writing N (λ j. add binary64 (line old j) (F j (a + k + j))) old now → SummingLanes N F a (k + 1) now
more_in_lanes {a = a} {k} s w = record {
  long = w.long ∙ s.long;
  lane = λ j m.
      let l = s.long in
      rw (read_back j nan w (omega arith)) (added_at (a + k + j) (s.lane j m) (omega arith));
}

-- the cells of a line's next bars in each
pub plus_in_lanes : {N : ℕ} {f : Line} {a k : ℕ} {old now : List Float} → SummingLanes N (λ j. f) a k old
    → now ≡ each_plus f (a + k) old → SummingLanes N (λ j. f) a (k + 1) now
plus_in_lanes {f = f} {a} {k} {old} {now} s e =
    let w : Writing (length old) (λ j. add binary64 (line old j) (f (a + k + j))) old now =
    record { is = e; long = rw e (length_written (length old) _ old) } in
    more_in_lanes s (ends w s.long)

-- the windows' sums at the bars from i on, the first of which starts at bar a
pub sums_of_lanes : {N : ℕ} {f : Line} {a k : ℕ} {lanes : List Float} (n i : ℕ) → SummingLanes N (λ j. f) a k lanes
    → (k ≡ n) × (a + n ≡ i + 1) → LanesOf N (window_sum n f) i lanes
sums_of_lanes n i s (p, q) = record {
  long = s.long;
  lane = λ j m. window_sum_lem n (i + j) (s.lane j m) (omega arith);
}
