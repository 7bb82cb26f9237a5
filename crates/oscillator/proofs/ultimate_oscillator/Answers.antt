-- `ultimate_oscillator` meets its contract: the answer is the table's, and where it has cells they are written and the
-- work slice is cleared. Assumes nothing.
use native.Mathlib.Omega.{arith}
use borrow.Author.Rules.{rules}
use lib.ListN.{length}
use Rattle.checks.proofs.Due.{some_due, written_call, empty_call}
use Rattle.oscillator.specs.inner.Rows.{Ready}
use Rattle.oscillator.proofs.Calls.{oscillator_clearable, oscillator_bars, oscillator_ready}
use Rattle.oscillator.proofs.ultimate_oscillator.Goals as goal
use Rattle.oscillator.proofs.ultimate_oscillator.Goals.{Then-cells_due}

-- where cells are due
opened : (c : Then-cells_due) →
    let a = c.args in
    Ready a.high.now a.low.now a.close.now a.first a.short_period a.med_period a.long_period
    (length a.out.now) (length a.work.now)
opened c =
    let some = some_due (rw c.if-cells_due.true at c.cells_due.ensures) in
    oscillator_ready _ _ _ _ _ _ _ _ _ c.answer_oscillator-due.ensures some

pub cells_due-requires : goal.cells_due-requires
cells_due-requires c = oscillator_clearable _ _ _ _ _ _ _ _ _ c.answer_oscillator-due.ensures

pub write_oscillator-requires : goal.write_oscillator-requires
write_oscillator-requires c = rw c.cells_due.ensures.long (opened (goal.at.write_oscillator-requires c).Then-cells_due)

pub overflow_mul-high : goal.overflow_mul-high
overflow_mul-high c = let o = opened (goal.at.overflow_mul-high c).Then-cells_due in search rules

pub clear-requires : goal.clear-requires
clear-requires c = let o = opened (goal.at.clear-requires c).Then-cells_due in search rules

pub returns-then-cells_due : goal.returns-then-cells_due
returns-then-cells_due c =
    written_call c.answer_oscillator-due.ensures (oscillator_bars _ _ _ _ _ _ _ _ _)
    (rw c.if-cells_due.true at c.cells_due.ensures) c.write_oscillator.ensures (omega arith)
    c.clear.ensures

pub returns-else-cells_due : goal.returns-else-cells_due
returns-else-cells_due c = empty_call c.answer_oscillator-due.ensures (rw c.if-cells_due.false at c.cells_due.ensures)
