-- `true_range` meets its contract: the answer is the table's, and where it has cells they are written. Assumes nothing.
use mathlib.Core.Path.{◌≡◌}
use Prim.Native.Nat.{◌<◌}
use native.Mathlib.Omega.{arith}
use lib.ListN.{length}
use Rattle.calls.specs.Answer.{count_of}
use Rattle.calls.proofs.Call.{some_cells, no_cells, all_called, none_called}
use Rattle.cells.proofs.Written.{writing_same}
use Rattle.true_range.specs.TrueRange.{true_range_answer}
use Rattle.true_range.proofs.TrueRange.{at_the_bar, range_bars, range_ready}
use Rattle.true_range.proofs.true_range.Goals as goal
use Rattle.true_range.proofs.true_range.Goals.{Then-has_cells}

-- the answer is the table's
due : (c : Then-has_cells) → 0 < count_of c.answer_true_range-due.result
due c = some_cells c.answer_true_range-due.result c.has_cells.ensures c.if-has_cells.true

pub write_ranges-requires : goal.write_ranges-requires
write_ranges-requires c =
    let ready =
    range_ready _ _ _ _ _ c.answer_true_range-due.ensures
    (due (goal.at.write_ranges-requires c).Then-has_cells) in
    (ready.0, omega arith, ready.1)

pub returns-then-has_cells : goal.returns-then-has_cells
returns-then-has_cells c =
    all_called (range_bars _ _ _ _ _) c.answer_true_range-due.ensures
    (due (goal.at.returns-then-has_cells c).Then-has_cells)
    (writing_same c.write_ranges.ensures (λ i l. at_the_bar _ _ _ _ i))

pub returns-else-has_cells : goal.returns-else-has_cells
returns-else-has_cells c =
    none_called c.answer_true_range-due.ensures
    (no_cells c.answer_true_range-due.result c.has_cells.ensures c.if-has_cells.false)
