-- `rolling_rank` meets its contract: the answer is the table's, and where it has cells they are written and the work
-- slice is cleared. Assumes nothing.
use native.Mathlib.Omega.{arith}
use borrow.Author.Rules.{rules}
use lib.ListN.{length}
use Rattle.checks.proofs.Due.{written_call, empty_call}
use Rattle.cells.proofs.Touched.{untouched}
use Rattle.rules_rank.specs.inner.Room.{RankRoom}
use Rattle.rules_rank.proofs.RollingCells.{rolling_bars, rolling_clearable, rolling_room}
use Rattle.rules.proofs.rolling_rank.Goals as goal
use Rattle.rules.proofs.rolling_rank.Goals.{Then-cells_due}

-- where cells are due
opened : (c : Then-cells_due) →
    let a = c.args in
    RankRoom a.series.now (length a.out.now) (length c.cells_due.new.work)
opened c =
    rolling_room _ _ _ c.answer_rolling_rank-due.ensures c.cells_due.ensures c.if-cells_due.true

pub cells_due-requires : goal.cells_due-requires
cells_due-requires c = rolling_clearable _ _ _ _ c.answer_rolling_rank-due.ensures

pub write_rolling_rank-requires : goal.write_rolling_rank-requires
write_rolling_rank-requires c = let room = opened (goal.at.write_rolling_rank-requires c).Then-cells_due in search rules

pub overflow_mul-series : goal.overflow_mul-series
overflow_mul-series c = let room = opened (goal.at.overflow_mul-series c).Then-cells_due in search rules

pub clear-requires : goal.clear-requires
clear-requires c = let room = opened (goal.at.clear-requires c).Then-cells_due in search rules

pub returns-then-cells_due : goal.returns-then-cells_due
returns-then-cells_due c =
    let some = rw c.if-cells_due.true at c.cells_due.ensures in
    let answer = c.answer_rolling_rank-due.ensures in
    let wrote = c.write_rolling_rank.ensures in
    written_call answer (rolling_bars _ _ _ _) some (wrote, untouched {k = 0}) (omega arith) c.clear.ensures

pub returns-else-cells_due : goal.returns-else-cells_due
returns-else-cells_due c =
    let answer = c.answer_rolling_rank-due.ensures in
    empty_call answer (rw c.if-cells_due.false at c.cells_due.ensures)
