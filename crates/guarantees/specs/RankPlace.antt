-- rolling_rank is a place in the sorted window: however the values of the window of an answered call are put in
-- ascending order, the cell is the place, from 1, of the first value less than 1e-8 away from the present one. Assumes
-- nothing.
use Rattle.std.specs.Prelude.{◌≡◌, true, List, [], ◌∷◌, ℕ, suc, ◌-◌, ◌<◌, ◌≤◌, length, get_or, Float, Ok}
use Rattle.std.proofs.Common.{sym, ◌∙◌}
use Rattle.values.specs.Accepted.{accepted}
use Rattle.cells.specs.Line.{line}
use Rattle.calls.proofs.Cells.{due_cell, room_after}
use Rattle.rules_rank.specs.RollingRank.{RollingRankCall, rolling_rank_answer, near}
use Rattle.rules_rank.specs.Sorted.{cells_from, Rearranged, ascending, place_of}
use Rattle.rules_rank.proofs.Place.{accepted_rank_is_place}

-- the window of k + 1 bars at bar i, in ascending order
pub rolling_rank_is_place : (s : List Float) (k : ℕ) {out₀ out₁ : List ℕ} {work₀ work₁ : List Float}
    → RollingRankCall s (suc k) out₀ work₀ (Ok (length s)) out₁ work₁
    → (i : ℕ) → i < length s → k ≤ i
    → (sorted : List Float) → Rearranged (cells_from (line s) (i - k) (suc k)) sorted → ascending sorted ≡ true
    → get_or out₁ i 0 ≡ place_of (near (line s i)) sorted
unfolding rolling_rank_answer
rolling_rank_is_place s k {out₀} {work₀ = work₀} c i h l sorted p a =
    let passed = room_after accepted s (length out₀) (length work₀ ∷ []) _ (length s) (sym c.call.answer) in
    due_cell 0 s (length work₀) _ c.call i h ∙ accepted_rank_is_place s sorted k i passed.values l h p a
