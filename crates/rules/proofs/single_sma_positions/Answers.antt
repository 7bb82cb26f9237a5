-- `single_sma_positions` meets its contract: the answer is the table's, and where it has cells they are written and
-- the work slice is cleared. Assumes nothing.
use native.Mathlib.Omega.{arith}
use borrow.Author.Rules.{rules}
use lib.ListN.{length}
use Rattle.calls.proofs.Room.{all_bars}
use Rattle.checks.specs.inner.Due.{Priced}
use Rattle.checks.proofs.Due.{clearable, priced, fewer_rows, written_call, empty_call}
use Rattle.rules.proofs.single_sma_positions.Goals as goal
use Rattle.rules.proofs.single_sma_positions.Goals.{Then-cells_due}

-- where cells are due
opened : (c : Then-cells_due) →
    let a = c.args in
    Priced 8 a.n a.series.now (length a.out.now)
    (length c.cells_due.new.work)
opened c =
    priced _ _ _ _ c.answer_window_with_work-due.ensures c.cells_due.ensures c.if-cells_due.true

pub cells_due-requires : goal.cells_due-requires
cells_due-requires c = clearable _ _ _ _ c.answer_window_with_work-due.ensures

pub write_single-requires : goal.write_single-requires
write_single-requires c = fewer_rows (opened (goal.at.write_single-requires c).Then-cells_due) (omega arith)

pub overflow_mul-series : goal.overflow_mul-series
overflow_mul-series c = let o = opened (goal.at.overflow_mul-series c).Then-cells_due in search rules

pub clear-requires : goal.clear-requires
clear-requires c = let o = opened (goal.at.clear-requires c).Then-cells_due in search rules

pub returns-then-cells_due : goal.returns-then-cells_due
returns-then-cells_due c =
    written_call c.answer_window_with_work-due.ensures (all_bars _ _ _ _ _)
    (rw c.if-cells_due.true at c.cells_due.ensures) c.write_single.ensures (omega arith)
    c.clear.ensures

pub returns-else-cells_due : goal.returns-else-cells_due
returns-else-cells_due c =
    empty_call c.answer_window_with_work-due.ensures
    (rw c.if-cells_due.false at c.cells_due.ensures)
