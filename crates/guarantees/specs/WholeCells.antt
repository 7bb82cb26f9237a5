-- Cells that are whole numbers: every cell of an answered call of the triple rule, of both Bollinger rules and of the
-- rule against the relative strength index is +1, -1 or 0; of two neighbouring cells of a reverse rule never is one +1
-- and the other -1; a rolling rank lies from 1 to its window. Assumes nothing.
use Rattle.std.specs.Prelude.{◌≡◌, refl, ◌⊎◌, ◌&&◌, List, [], ◌∷◌, ℕ, suc, ◌+◌, ◌-◌, ◌<◌, ◌≤◌, leb, ℤ, length, get_or, Float, Ok}
use Rattle.std.proofs.Common.{inl, inr, arith}
use Rattle.std.specs.Float.Ieee.{lt}
use Rattle.calls.specs.Answer.{Answer, and_then, checked, answered_with}
use Rattle.calls.specs.Call.{Call}
use Rattle.calls.proofs.Cells.{due_cell}
use Rattle.values.specs.Accepted.{accepted}
use Rattle.cells.specs.Line.{Line, line, from_bar}
use Rattle.windows.specs.Window.{mean}
use Rattle.rules_held.specs.Held.{flat, long, short}
use Rattle.rules_held.proofs.Holding.{Position, at_flat, at_long, at_short, either_position}
use Rattle.rules_bands.specs.Boll.{BollCall}
use Rattle.rules_bands.specs.BollReverse.{BollReverseCall}
use Rattle.rules_bands.proofs.Bands.{boll_position, boll_reverse_position, boll_reverse_neighbours}
use Rattle.rules_triple.specs.Triple.{triple_line, triple_answer, TripleCall}
use Rattle.rules_rsi.specs.RsiReverse.{RsiReverseCall}
use Rattle.rules_rsi.proofs.Index.{rsi_reverse_position, rsi_reverse_neighbours}
use Rattle.rules_rank.specs.RollingRank.{rolling_rank_answer, RollingRankCall}
use Rattle.rules_rank.proofs.RollingCells.{rolling_before, rolling_within}

-- long, short or flat
abbrev pub WholePosition : ℤ → Type 0
WholePosition x = (x ≡ long) ⊎ ((x ≡ short) ⊎ (x ≡ flat))

whole : {x : ℤ} → Position x → WholePosition x
whole at_long = inl refl
whole at_short = inr (inl refl)
whole at_flat = inr (inr refl)

triple_position : (m1 m2 m3 : ℕ) (f : Line) (i : ℕ) → Position (triple_line m1 m2 m3 f i)
unfolding triple_line from_bar
triple_position m1 m2 m3 f i =
    let g = mean m1 f in
    either_position (leb (m1 + m3 - 2) i)
    (either_position (lt (mean m3 g i) (g i) && lt (mean m2 g i) (mean m1 g i)) at_long
    (either_position (lt (g i) (mean m3 g i) && lt (mean m1 g i) (mean m2 g i)) at_short at_flat))
    at_flat

-- of two neighbouring cells never is one +1 and the other -1
abbrev pub ClosesFirst : List Float → List ℤ → Type 0
ClosesFirst s out = (i : ℕ) → suc i < length s
    → (get_or out i flat ≡ long → get_or out (suc i) flat ≡ short → ⊥)
    × (get_or out i flat ≡ short → get_or out (suc i) flat ≡ long → ⊥)

-- as it is of the line
closes_first : (s : List Float) (work : ℕ) (next : Answer) {f : ℕ → ℤ} {out₀ out₁ : List ℤ}
    → Call (and_then (checked accepted (s ∷ []) (length out₀ ∷ []) (work ∷ [])) next) f out₀ (Ok (length s)) out₁
    → ((i : ℕ) → (f i ≡ long → f (suc i) ≡ short → ⊥) × (f i ≡ short → f (suc i) ≡ long → ⊥)) → ClosesFirst s out₁
closes_first s work next c law i h =
    rw (due_cell flat s work next c i (omega arith), due_cell flat s work next c (suc i) h) (law i)

-- ---- the statements

module _ (s : List Float) {out₀ out₁ : List ℤ} {work₀ work₁ : List Float} where
  -- Triple: each cell is +1, -1 or 0.
  pub triple_writes_positions : (m1 m2 m3 : ℕ) → TripleCall s m1 m2 m3 out₀ work₀ (Ok (length s)) out₁ work₁
      → (i : ℕ) → i < length s
      → WholePosition (get_or out₁ i flat)
  unfolding triple_answer
  triple_writes_positions m1 m2 m3 c i h =
      rw (due_cell flat s (length work₀) _ c.call i h) (whole (triple_position m1 m2 m3 (line s) i))

  module _ (n : ℕ) (k : Float) where
    -- Bollinger: likewise.
    pub boll_writes_positions : BollCall s n k out₀ work₀ (Ok (length s)) out₁ work₁ → (i : ℕ) → i < length s
        → WholePosition (get_or out₁ i flat)
    unfolding answered_with
    boll_writes_positions c i h =
        rw (due_cell flat s (length work₀) _ c.call i h) (whole (boll_position n k (line s) i))

    -- The reverse rule: likewise.
    pub boll_reverse_writes_positions : BollReverseCall s n k out₀ work₀ (Ok (length s)) out₁ work₁ → (i : ℕ)
        → i < length s
        → WholePosition (get_or out₁ i flat)
    unfolding answered_with
    boll_reverse_writes_positions c i h =
        rw (due_cell flat s (length work₀) _ c.call i h) (whole (boll_reverse_position n k (line s) i))

    -- The reverse rule: a position closes before the other one opens.
    pub boll_reverse_closes_first : BollReverseCall s n k out₀ work₀ (Ok (length s)) out₁ work₁ → ClosesFirst s out₁
    unfolding answered_with
    boll_reverse_closes_first c =
        closes_first s (length work₀) _ c.call (boll_reverse_neighbours n k (line s))

  module _ (n : ℕ) (upper lower exit : Float)
      (c : RsiReverseCall s n upper lower exit out₀ work₀ (Ok (length s)) out₁ work₁) where
    -- The relative strength index: each cell is +1, -1 or 0.
    pub rsi_reverse_writes_positions : (i : ℕ) → i < length s → WholePosition (get_or out₁ i flat)
    unfolding answered_with
    rsi_reverse_writes_positions i h =
        rw (due_cell flat s (length work₀) _ c.call i h) (whole (rsi_reverse_position n upper lower exit (line s) i))

    -- And a position closes before the other one opens.
    pub rsi_reverse_closes_first : ClosesFirst s out₁
    unfolding answered_with
    rsi_reverse_closes_first =
        closes_first s (length work₀) _ c.call (rsi_reverse_neighbours n upper lower exit (line s))

module _ (s : List Float) (w : ℕ) {out₀ out₁ : List ℕ} {work₀ work₁ : List Float} where
  -- A rolling rank: from 1 to the window where that is whole, and 0 before.
  pub rolling_rank_writes_places : RollingRankCall s w out₀ work₀ (Ok (length s)) out₁ work₁ → (i : ℕ)
      → i < length s → 0 < w → w ≤ i + 1
      → (1 ≤ get_or out₁ i 0) × (get_or out₁ i 0 ≤ w)
  unfolding rolling_rank_answer
  rolling_rank_writes_places c i h p q =
      rw (due_cell 0 s (length work₀) _ c.call i h) (rolling_within w (line s) i p q)

  pub rolling_rank_writes_none : RollingRankCall s w out₀ work₀ (Ok (length s)) out₁ work₁ → (i : ℕ)
      → i < length s → i < w - 1
      → get_or out₁ i 0 ≡ 0
  unfolding rolling_rank_answer
  rolling_rank_writes_none c i h q = rw (due_cell 0 s (length work₀) _ c.call i h) (rolling_before w (line s) i q)
