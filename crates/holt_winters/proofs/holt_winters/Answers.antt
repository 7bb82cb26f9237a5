-- `holt_winters` meets its contract: the answer is the table's, and where it has cells they are written and the work
-- slice is cleared. Assumes nothing.
use native.Mathlib.Omega.{arith}
use borrow.Author.Rules.{rules}
use lib.ListN.{length}
use Rattle.checks.proofs.Due.{some_due, written_call}
use Rattle.holt_winters.specs.inner.Stages.{SeasonRoom}
use Rattle.holt_winters.proofs.Stages.{holt_winters_clearable, holt_winters_bars, holt_winters_ready}
use Rattle.holt_winters.proofs.holt_winters.Goals as goal
use Rattle.holt_winters.proofs.holt_winters.Goals.{Then-cells_due}

-- where cells are due
opened : (c : Then-cells_due) →
    let a = c.args in
    SeasonRoom a.season_length a.series.now (length a.out.now) (length a.work.now)
opened c =
    let some = some_due (rw c.if-cells_due.true at c.cells_due.ensures) in
    holt_winters_ready _ _ _ _ _ c.answer_holt_winters-due.ensures some

pub cells_due-requires : goal.cells_due-requires
cells_due-requires c = holt_winters_clearable _ _ _ _ _ c.answer_holt_winters-due.ensures

pub write_smoothed-requires : goal.write_smoothed-requires
write_smoothed-requires c = let o = opened (goal.at.write_smoothed-requires c).Then-cells_due in search rules

pub clear_last-requires : goal.clear_last-requires
clear_last-requires c =
    let o = opened (goal.at.clear_last-requires c).Then-cells_due in
    let rows = c.write_smoothed.ensures.seasons in
    (omega (arith, rows.rest.long), rows.cleared)

pub returns-then-cells_due : goal.returns-then-cells_due
returns-then-cells_due c =
    let done = c.write_smoothed.ensures in
    written_call c.answer_holt_winters-due.ensures (holt_winters_bars _ _ _ _ _)
    (rw c.if-cells_due.true at c.cells_due.ensures) (done.cells, done.seasons.rest) (omega arith)
    c.clear_last.ensures
