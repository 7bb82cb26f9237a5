-- `mms_positions` meets its contract: the answer is the table's, and where it has cells they are written and the work
-- slice is cleared. Assumes nothing.
use native.Mathlib.Omega.{arith}
use borrow.Author.Rules.{rules}
use lib.ListN.{length}
use Rattle.limits.specs.Limits.{Window}
use Rattle.calls.proofs.Room.{all_bars, answered_windows}
use Rattle.checks.specs.inner.Due.{Priced}
use Rattle.checks.proofs.Due.{clearable, priced, some_due, fewer_rows, written_call, empty_call}
use Rattle.rules.proofs.mms_positions.Goals as goal
use Rattle.rules.proofs.mms_positions.Goals.{Then-cells_due}

-- where cells are due
opened : (c : Then-cells_due) →
    let a = c.args in
    Priced 8 a.timeperiod a.series.now (length a.out.now)
    (length c.cells_due.new.work)
    × Window a.window
opened c =
    let answer = c.answer_mms-due.ensures in
    let yes = c.cells_due.ensures in
    let some = some_due (rw c.if-cells_due.true at yes) in
    (priced _ _ _ _ answer yes c.if-cells_due.true, (answered_windows _ _ _ _ _ answer some).1.0)

pub cells_due-requires : goal.cells_due-requires
cells_due-requires c = clearable _ _ _ _ c.answer_mms-due.ensures

pub write_mms-requires : goal.write_mms-requires
write_mms-requires c =
    let o =
    opened (goal.at.write_mms-requires c).Then-cells_due in
    (record { priced = fewer_rows o.0 (omega arith); window = o.1 })

pub overflow_mul-series : goal.overflow_mul-series
overflow_mul-series c = let o = opened (goal.at.overflow_mul-series c).Then-cells_due in search rules

pub clear-requires : goal.clear-requires
clear-requires c = let o = opened (goal.at.clear-requires c).Then-cells_due in search rules

pub returns-then-cells_due : goal.returns-then-cells_due
returns-then-cells_due c =
    let yes = rw c.if-cells_due.true at c.cells_due.ensures in
    written_call c.answer_mms-due.ensures (all_bars _ _ _ _ _) yes c.write_mms.ensures
    (omega arith) c.clear.ensures

pub returns-else-cells_due : goal.returns-else-cells_due
returns-else-cells_due c = empty_call c.answer_mms-due.ensures (rw c.if-cells_due.false at c.cells_due.ensures)
