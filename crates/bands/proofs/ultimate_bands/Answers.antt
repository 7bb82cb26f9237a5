-- `ultimate_bands` meets its contract: the answer is the table's, and where it has cells the three lines are written
-- and the work slice is cleared. Assumes nothing.
use Prim.Native.Nat.{◌*◌, ◌≤◌}
use native.Mathlib.Omega.{arith}
use borrow.Author.Rules.{rules}
use lib.ListN.{length}
use Rattle.cells.proofs.Touched.{untouched}
use Rattle.checks.proofs.Due.{some_due}
use Rattle.outer_lines.proofs.Calls.{written_band_call, empty_band_call}
use Rattle.bands.specs.inner.Stages.{BandsRoom}
use Rattle.bands.proofs.Call.{bands_clearable, bands_bars, bands_ready}
use Rattle.bands.proofs.ultimate_bands.Goals as goal
use Rattle.bands.proofs.ultimate_bands.Goals.{Then-cells_due}

-- where cells are due
opened : (c : Then-cells_due) →
    let a = c.args in
    BandsRoom a.period a.smooth_period a.close.now (length a.middle.now) (length a.upper.now)
    (length a.lower.now)
    × (8 * length a.close.now ≤ length a.work.now)
opened c =
    let some = some_due (rw c.if-cells_due.true at c.cells_due.ensures) in
    bands_ready _ _ _ _ _ _ _ _ c.answer_bands-due.ensures some

pub cells_due-requires : goal.cells_due-requires
cells_due-requires c = bands_clearable _ _ _ _ _ _ _ _ c.answer_bands-due.ensures

pub write_bands-requires : goal.write_bands-requires
write_bands-requires c = (opened (goal.at.write_bands-requires c).Then-cells_due).0

pub overflow_mul-bars : goal.overflow_mul-bars
overflow_mul-bars c = let o = (opened (goal.at.overflow_mul-bars c).Then-cells_due).1 in search rules

pub clear-requires : goal.clear-requires
clear-requires c = let o = (opened (goal.at.clear-requires c).Then-cells_due).1 in search rules

pub returns-then-cells_due : goal.returns-then-cells_due
returns-then-cells_due c =
    written_band_call c.answer_bands-due.ensures (bands_bars _ _ _ _ _ _ _ _)
    (rw c.if-cells_due.true at c.cells_due.ensures) c.write_bands.ensures (untouched {k = 0}) (omega arith)
    c.clear.ensures

pub returns-else-cells_due : goal.returns-else-cells_due
returns-else-cells_due c = empty_band_call c.answer_bands-due.ensures (rw c.if-cells_due.false at c.cells_due.ensures)
