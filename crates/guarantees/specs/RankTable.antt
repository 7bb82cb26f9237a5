-- The rank table: which tables are taken, and what is written where one is. `Rattle.rules_rank_table.specs.Taken` says
-- what a row read is and what it covers. Assumes nothing.
use Rattle.std.specs.Prelude.{◌≡◌, List, [], ◌∷◌, ℕ, ◌-◌, ◌*◌, ◌<◌, ◌≤◌, ℤ, length, get_or, Float, Ok}
use Rattle.std.proofs.Common.{arith}
use Rattle.limits.specs.Limits.{Window}
use Rattle.values.specs.Accepted.{accepted}
use Rattle.cells.specs.Line.{line}
use Rattle.calls.specs.Answer.{Answer, refusal_of, checked}
use Rattle.calls.proofs.Cells.{due_cell}
use Rattle.windows.specs.Window.{mean}
use Rattle.rules_held.specs.Held.{flat}
use Rattle.rules_rank.specs.Rank.{below_now}
use Rattle.rules_rank_table.specs.Taken.{position_at, CoveredOnce, Complete}
use Rattle.rules_rank_table.specs.RankTable.{rank_number, rank_table_answer, RankTableCall}
use Rattle.rules_rank_table.proofs.Open.{rank_table_opened}
use Rattle.rules_rank_table.proofs.ByRow.{
  line_position,
  rank_covered,
  line_by_row,
  taken_if_complete,
  complete_if_taken,
}
use Rattle.guarantees.specs.WholeCells.{WholePosition}

-- the rank of bar i that `rank_positions` divides by 100, as a whole number
abbrev pub rank_at : ℕ → List Float → ℕ → ℤ
rank_at n s i = rank_number (below_now n (mean n (line s)) i) (n - 1)

-- just one row covers k, and x is its position
pub record ByRow (table : List ℤ) (k x : ℤ) : Type 0 where
  pub once : CoveredOnce table k
  pub cell : x ≡ position_at table once.row

-- ---- the statements

module _ (s : List Float) (n : ℕ) (table : List ℤ) {out₀ out₁ : List ℤ} {work₀ work₁ : List Float} where
  -- With a bar and a window at least, and none of refusals 1 to 7: refusal 0 if and only if every number from -100 to
  -- 100 is covered by just one row read and every position read is -1, 0 or 1.
  pub taken_exactly_if : {r : Answer} → RankTableCall s n table out₀ work₀ r out₁ work₁ → 0 < length s → Window n
      → checked accepted (s ∷ []) (length out₀ ∷ []) (length work₀ ∷ []) ≡ Ok (length s)
      → (refusal_of r ≡ 0 → Complete table) × (Complete table → refusal_of r ≡ 0)
  taken_exactly_if c bars window passes =
      let e = c.call.answer in (
        complete_if_taken s n table (length out₀) (length work₀) passes window bars e,
        taken_if_complete s n table (length out₀) (length work₀) passes window bars e,
      )

  module _ (c : RankTableCall s n table out₀ work₀ (Ok (length s)) out₁ work₁) (i : ℕ) (h : i < length s) where
    -- Each cell is +1, -1 or 0.
    pub rank_table_writes_positions : WholePosition (get_or out₁ i flat)
    unfolding rank_table_answer
    rank_table_writes_positions =
        let o = rank_table_opened s n table (length out₀) (length work₀) c.call.answer (omega arith) in
        rw (due_cell flat s (length work₀) _ c.call i h) (line_position n (line s) i o.passed.known)

    -- From bar 2n - 2 on, for a window of 2 bars or more: just one row read covers the rank of bar i, and the cell is
    -- the position of that row.
    pub rank_table_writes_rows : 2 ≤ n → 2 * n - 2 ≤ i → ByRow table (rank_at n s i) (get_or out₁ i flat)
    unfolding rank_table_answer
    rank_table_writes_rows two from =
        let o = rank_table_opened s n table (length out₀) (length work₀) c.call.answer (omega arith) in
        record {
          once = rank_covered table o.passed n (line s) i two o.window.narrow;
          cell = rw (due_cell flat s (length work₀) _ c.call i h)
              (line_by_row table o.passed n (line s) i two o.window.narrow from);
        }
