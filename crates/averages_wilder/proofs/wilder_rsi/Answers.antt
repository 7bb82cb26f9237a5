-- `wilder_rsi` meets its contract: the answer is the table's, and where it has cells they are written and the work
-- slice is cleared. Assumes nothing.
use native.Mathlib.Omega.{arith}
use borrow.Author.Rules.{rules}
use lib.ListN.{length}
use Rattle.cells.proofs.Touched.{untouched}
use Rattle.cells.proofs.Scratch.{all_cleared}
use Rattle.calls.proofs.Room.{all_bars}
use Rattle.checks.specs.inner.Due.{Priced}
use Rattle.checks.proofs.Due.{clearable, priced, written_call}
use Rattle.averages_wilder.proofs.wilder_rsi.Goals as goal
use Rattle.averages_wilder.proofs.wilder_rsi.Goals.{Then-cells_due}

-- where cells are due
opened : (c : Then-cells_due) →
    let a = c.args in
    let work = c.cells_due.new.work in
    Priced 8 a.n a.series.now (length a.out.now) (length work)
opened c =
    priced _ _ _ _ c.answer_window_with_work-due.ensures c.cells_due.ensures c.if-cells_due.true

pub cells_due-requires : goal.cells_due-requires
cells_due-requires c = clearable _ _ _ _ c.answer_window_with_work-due.ensures

pub write_wilder_rsi-requires : goal.write_wilder_rsi-requires
write_wilder_rsi-requires c = let o = opened (goal.at.write_wilder_rsi-requires c).Then-cells_due in search rules

pub returns-then-cells_due : goal.returns-then-cells_due
returns-then-cells_due c =
    let o = opened (goal.at.returns-then-cells_due c).Then-cells_due in
    let done = c.write_wilder_rsi.ensures in
    let clear = all_cleared done.cleared (omega (arith, o.work_long, done.cleared.rest.long)) in
    written_call c.answer_window_with_work-due.ensures (all_bars _ _ _ _ _)
    (rw c.if-cells_due.true at c.cells_due.ensures) (done.cells, untouched {k = 0}) (omega arith) clear
