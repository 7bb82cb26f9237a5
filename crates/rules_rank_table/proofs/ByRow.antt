-- What is written where a table is taken: the position of the one row that covers the rank. And where a call is open,
-- its answer is the table's. Assumes nothing.
use mathlib.Core.Path.{◌≡◌, refl, sym, ◌∙◌}
use mathlib.Core.List.{List, [], ◌∷◌}
use Prim.Native.Nat.{ℕ, ◌+◌, ◌-◌, ◌*◌, ◌<◌, ◌≤◌}
use native.Mathlib.Omega.{arith}
use borrow.Author.Tests.{le-leb, ne_eqb}
use lib.Dec.{leb}
use lib.IntN.{ℤ}
use lib.ListN.{length}
use lib.Ieee.{Float}
use Rattle.limits.specs.Limits.{longest_window, Window}
use Rattle.values.specs.Accepted.{accepted}
use Rattle.cells.specs.Line.{Line, from_bar}
use Rattle.cells.proofs.Line.{from_bar_lem}
use Rattle.windows.specs.Window.{mean}
use Rattle.ranks.specs.Counted.{below}
use Rattle.ranks.proofs.Counted.{count_from_most}
use Rattle.calls.specs.Answer.{Answer, refusal_of, count_of, checked, windowed}
use Rattle.std.specs.Prelude.{Ok}
use Rattle.calls.specs.declared.numbers.CAnswer.{CAnswer}
use Rattle.calls.proofs.InNumbers.{accepted_call}
use Rattle.rules_held.specs.Held.{flat}
use Rattle.rules_rank.specs.Rank.{below_now}
use Rattle.rules_rank_table.specs.Table.{Row, rows_read, table_checked}
use Rattle.rules_rank_table.specs.RankTable.{rank_number, rank_table_line, rank_table_answer}
use Rattle.rules_rank_table.specs.Taken.{position_at, CoveredOnce, Complete}
use Rattle.rules_rank_table.specs.inner.Stages.{Known, Looked}
use Rattle.rules_rank_table.proofs.Complete.{once, once_position, passed_count, passed_complete, complete_taken}
use Rattle.rules_rank_table.proofs.Known.{OneOfThree, one_of_three, either, position_known}
use Rattle.rules_rank_table.proofs.Open.{Passed, table_passed}
use Rattle.rules_rank_table.proofs.Ranks.{rank_within, looked_up}

-- each cell is -1, 0 or 1
pub line_position : {rows : List Row} (n : ℕ) (f : Line) (i : ℕ) → Known rows → OneOfThree (rank_table_line rows n f i)
unfolding rank_table_line from_bar
line_position n f i h =
    one_of_three _ (either (leb (2 * n - 2) i) _ _ (position_known (below_now n (mean n f) i) (n - 1) h) refl)

-- from bar 2n - 2 on it is that of the one row that covers the rank
module _ (table : List ℤ) (p : Passed (rows_read table)) (n : ℕ) (f : Line) (i : ℕ) (two : 2 ≤ n)
    (narrow : n ≤ longest_window) where
  looked : Looked (below_now n (mean n f) i) (n - 1)
  unfolding below_now
  looked = record {
    some = omega arith;
    narrow = omega arith;
    part = count_from_most (below (mean n f i)) (mean n f) (i + 1 - n) (n - 1);
  }

  pub rank_covered : CoveredOnce table (rank_number (below_now n (mean n f) i) (n - 1))
  rank_covered =
      let (least, most) = rank_within looked in
      let (few, some) = passed_count table p _ least most in
      once table _ few some

  pub line_by_row : 2 * n - 2 ≤ i → rank_table_line (rows_read table) n f i ≡ position_at table rank_covered.row
  unfolding rank_table_line
  line_by_row h =
      from_bar_lem (2 * n - 2) flat _ i h ∙ looked_up looked (rows_read table) ∙ once_position table _ rank_covered

-- ---- exactly if

module _ (s : List Float) (n : ℕ) (table : List ℤ) (output work : ℕ)
    (passes : checked accepted (s ∷ []) (output ∷ []) (work ∷ []) ≡ Ok (length s)) (window : Window n)
    (bars : 0 < length s) {r : Answer} (e : r ≡ rank_table_answer s n table output work) where
  -- the table decides
  by_table : r ≡ table_checked (rows_read table) (Ok (length s))
  unfolding rank_table_answer windowed
  by_table =
      let some = window.some in
      let narrow = le-leb n longest_window window.narrow in
      let no_bars = ne_eqb (length s) 0 (λ z. let b = bars in omega arith) in
      let none = ne_eqb n 0 (λ z. omega arith) in
      e ∙ rw (passes, narrow, no_bars, none)

  pub taken_if_complete : Complete table → refusal_of r ≡ 0
  taken_if_complete c = rw (by_table, complete_taken table c (Ok (length s)))

  pub complete_if_taken : refusal_of r ≡ 0 → Complete table
  complete_if_taken z =
      let numbers : CAnswer = record { refusal = refusal_of r; count = count_of r } in
      let counted : Ok (count_of r) ≡ table_checked (rows_read table) (Ok (length s)) =
      accepted_call {P = λ a. a ≡ table_checked (rows_read table) (Ok (length s))} {r = numbers}
      (record { answer = r; call = by_table; numbers = record { refusal = refl; count = refl } }) z in
      passed_complete table (table_passed (rows_read table) (Ok (length s)) (count_of r) (sym counted)).0
