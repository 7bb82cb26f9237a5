-- `tanh_positions` meets its contract: the answer is the table's, and where it has cells they are written and the work
-- slice is cleared. Assumes nothing.
use native.Mathlib.Omega.{arith}
use borrow.Author.Rules.{rules}
use lib.ListN.{length}
use Rattle.calls.proofs.Room.{all_bars}
use Rattle.checks.specs.inner.Due.{Priced}
use Rattle.checks.proofs.Due.{clearable, priced, fewer_rows, written_call, empty_call}
use Rattle.rules.proofs.tanh_positions.Goals as goal
use Rattle.rules.proofs.tanh_positions.Goals.{Then-cells_due}

-- where cells are due
opened : (c : Then-cells_due) →
    let a = c.args in
    let work = c.cells_due.new.work in
    Priced 8 a.n a.series.now (length a.out.now) (length work)
opened c =
    priced _ _ _ _ c.answer_window_with_work-due.ensures c.cells_due.ensures c.if-cells_due.true

pub cells_due-requires : goal.cells_due-requires
cells_due-requires c = clearable _ _ _ _ c.answer_window_with_work-due.ensures

pub write_tanh-requires : goal.write_tanh-requires
write_tanh-requires c = fewer_rows (opened (goal.at.write_tanh-requires c).Then-cells_due) (omega arith)

pub overflow_mul-series : goal.overflow_mul-series
overflow_mul-series c = let o = opened (goal.at.overflow_mul-series c).Then-cells_due in search rules

pub clear-requires : goal.clear-requires
clear-requires c = let o = opened (goal.at.clear-requires c).Then-cells_due in search rules

pub returns-then-cells_due : goal.returns-then-cells_due
returns-then-cells_due c =
    let some = rw c.if-cells_due.true at c.cells_due.ensures in
    let answer = c.answer_window_with_work-due.ensures in
    written_call answer (all_bars _ _ _ _ _) some c.write_tanh.ensures (omega arith) c.clear.ensures

pub returns-else-cells_due : goal.returns-else-cells_due
returns-else-cells_due c =
    let answer = c.answer_window_with_work-due.ensures in
    empty_call answer (rw c.if-cells_due.false at c.cells_due.ensures)
