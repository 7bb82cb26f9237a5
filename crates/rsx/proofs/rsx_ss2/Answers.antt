-- `rsx_ss2` meets its contract: the answer is the table's, and where it has cells they are written and the work
-- slice is cleared. Assumes nothing.
use native.Mathlib.Omega.{arith}
use borrow.Author.Rules.{rules}
use lib.ListN.{length}
use Rattle.checks.proofs.Due.{some_due, written_call}
use Rattle.rsx.specs.inner.Averaged.{RsxRoom}
use Rattle.rsx.proofs.Stages.{rsx_clearable, rsx_bars, rsx_ready}
use Rattle.rsx.proofs.rsx_ss2.Goals as goal
use Rattle.rsx.proofs.rsx_ss2.Goals.{Then-cells_due}

-- where cells are due
opened : (c : Then-cells_due) →
    let a = c.args in
    RsxRoom a.period a.smooth_period a.close.now (length a.out.now) (length a.work.now)
opened c =
    let some = some_due (rw c.if-cells_due.true at c.cells_due.ensures) in
    rsx_ready _ _ _ _ _ c.answer_rsx-due.ensures some

pub cells_due-requires : goal.cells_due-requires
cells_due-requires c = rsx_clearable _ _ _ _ _ c.answer_rsx-due.ensures

pub write_rsx-requires : goal.write_rsx-requires
write_rsx-requires c = let o = opened (goal.at.write_rsx-requires c).Then-cells_due in search rules

pub clear-requires : goal.clear-requires
clear-requires c = let o = opened (goal.at.clear-requires c).Then-cells_due in search rules

pub returns-then-cells_due : goal.returns-then-cells_due
returns-then-cells_due c =
    written_call c.answer_rsx-due.ensures (rsx_bars _ _ _ _ _)
    (rw c.if-cells_due.true at c.cells_due.ensures) c.write_rsx.ensures (omega arith)
    c.clear.ensures
