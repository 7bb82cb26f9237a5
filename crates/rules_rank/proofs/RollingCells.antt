-- The cells of `rolling_rank`: before the first whole window, and from a count on. Assumes nothing.
use mathlib.Core.Path.{◌≡◌, refl, sym, ap, ◌∙◌}
use mathlib.Core.Bool.{Bool, true, false}
use mathlib.Core.List.{List, [], ◌∷◌}
use Prim.Native.Nat.{ℕ, zero, suc, ◌+◌, ◌-◌, ◌*◌, ◌<◌, ◌≤◌}
use native.Mathlib.Numerals.{add-one}
use native.Mathlib.Omega.{arith}
use lib.Dec.{leb}
use lib.ListN.{length}
use lib.Ieee.{Float}
use lib.Ieee.Scale.{finite}
use Rattle.cells.specs.Line.{Line, line}
use Rattle.cells.proofs.Line.{before_bar, from_bar_lem}
use Rattle.cells.specs.Written.{Writing}
use Rattle.cells.proofs.Written.{writing_same}
use Rattle.rounding.specs.Literals.{ten_to_minus}
use Rattle.values.specs.Accepted.{accepted, all}
use Rattle.values.proofs.All.{all_at}
use Rattle.ranks.specs.Counted.{below_by, count_from}
use Rattle.ranks.proofs.Counted.{count_from_same, count_from_most, last_failed}
use Rattle.limits.specs.Limits.{longest_window}
use Rattle.calls.specs.Answer.{Answer, cleared_of, checked, any_zero}
use Rattle.calls.proofs.Call.{AllBars}
use Rattle.calls.proofs.Room.{and_then_cells, unless_cells, empty_if_cells, same_count}
use Rattle.checks.specs.inner.Due.{CellsDue}
use Rattle.checks.proofs.Due.{some_due, clearable_then, room_then}
use Rattle.rounding_order.proofs.Outward.{lt_self}
use Rattle.rules_rank.specs.inner.Place.{counted_place}
use Rattle.rules_rank.specs.RollingRank.{well_below, rolling_rank_line, rolling_rank_answer}
use Rattle.rules_rank.specs.inner.Room.{RankRoom}
use Rattle.values.proofs.Numbers.{accepted_finite}
use Rattle.rules_rank.proofs.Distances.{well_below_is}

-- 0 before the first whole window
pub rolling_before : (w : ℕ) (f : Line) (i : ℕ) → i < w - 1 → rolling_rank_line w f i ≡ 0
unfolding rolling_rank_line
rolling_before zero f i h = refl
rolling_before (suc k) f i h = before_bar k 0 _ i (omega arith)

-- and from there on one more than the count of the values before bar i that lie well below its own
pub rolling_from : (w : ℕ) (f : Line) (i : ℕ) → 0 < w → w ≤ i + 1
    → rolling_rank_line w f i ≡ suc (count_from (well_below (f i)) f (i + 1 - w) (w - 1))
unfolding rolling_rank_line
rolling_from zero f i p h = absurd (omega arith)
rolling_from (suc k) f i p h =
    let first : i + 1 - suc k ≡ i - k = omega arith in
    let last : i - k + k ≡ i = omega arith in
    let others : suc k - 1 ≡ k = omega arith in
    let own : well_below (f i) (f (i - k + k)) ≡ false = rw (last, lt_self (f i)) in
    from_bar_lem k 0 _ i (omega arith) ∙ rw (first, others) (ap suc (last_failed (well_below (f i)) f (i - k) k own))

-- so it lies from 1 to the window
pub rolling_within : (w : ℕ) (f : Line) (i : ℕ) → 0 < w → w ≤ i + 1
    → (1 ≤ rolling_rank_line w f i) × (rolling_rank_line w f i ≤ w)
rolling_within w f i p h =
    let most = count_from_most (well_below (f i)) f (i + 1 - w) (w - 1) in
    let is = rolling_from w f i p h in
    (omega arith, omega arith)

-- ---- what the stages write

-- before the first whole window, or for a window of none
pub none_placed : (w : ℕ) (f : Line) {k : ℕ} {old now : List ℕ} → Writing k (λ i. 0) old now → k ≤ w - 1
    → Writing k (rolling_rank_line w f) old now
none_placed w f v h = writing_same v (λ i l. sym (rolling_before w f i (omega arith)))

pub no_window_lem : (w : ℕ) (f : Line) {k : ℕ} {old now : List ℕ} → Writing k (λ i. 0) old now → w ≤ 0
    → Writing k (rolling_rank_line w f) old now
unfolding rolling_rank_line
no_window_lem zero f v h = v
no_window_lem (suc k) f v h = absurd (omega arith)

-- the rank at bar i, from the count by one difference
pub placed : (s : List Float) (w i : ℕ) → all accepted s ≡ true → (0 < w) × (w ≤ i + 1) × (i < length s)
    → counted_place w (line s) i ≡ rolling_rank_line w (line s) i
unfolding counted_place
placed s w i a (p, h, l) =
    let number : (j : ℕ) → j < length s → finite (line s j) ≡ true =
    λ j m. accepted_finite (line s j) (all_at accepted s j a m) in
    let same =
    count_from_same (below_by (ten_to_minus 8) (line s i)) (well_below (line s i)) (line s) (line s) (i + 1 - w) (w - 1)
    (λ j m. well_below_is (line s i) (line s j) (number i l) (number j (omega arith))) in
    add-one _ ∙ ap suc same ∙ sym (rolling_from w (line s) i p h)

-- ---- the answer

-- it has a cell for each bar
pub rolling_bars : (s : List Float) (w out work : ℕ) → AllBars (rolling_rank_answer s w out work) (length s)
unfolding rolling_rank_answer
rolling_bars s w out work k e h =
    let a = and_then_cells (checked accepted (s ∷ []) (out ∷ []) (work ∷ [])) _ k e in
    let b = unless_cells (all (λ n. leb n longest_window) (w ∷ [])) _ _ k a.1 in
    sym (same_count _ _ (empty_if_cells (any_zero (length s ∷ [])) _ k b.1 h).1)

-- its work slice has room to be cleared
pub rolling_clearable : (s : List Float) (w out work : ℕ) {r : Answer} → r ≡ rolling_rank_answer s w out work
    → cleared_of r (8 * length s) ≤ work
unfolding rolling_rank_answer
rolling_clearable s w out work e = clearable_then s out work _ e

-- where its cells are due, there is room for them, and the prices are accepted
pub rolling_room : (s : List Float) (w out : ℕ) {r : Answer} {t : Bool} {work₀ work₁ : List Float}
    → r ≡ rolling_rank_answer s w out (length work₀) → CellsDue r (length s) t work₀ work₁ → t ≡ true
    → RankRoom s out (length work₁)
unfolding rolling_rank_answer
rolling_room s w out {work₀ = work₀} e d y =
    let facts = room_then s out (length work₀) _ e (some_due (rw y at d)) in
    record {
      short = facts.short;
      out_long = facts.out_long;
      work_long = rw d.long facts.work_long.0;
      values = facts.values;
    }
