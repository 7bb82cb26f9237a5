-- `double_sma_ranges` meets its contract: the answer is that of the table, and where it has cells they are written.
-- Assumes nothing.
use Prim.Native.Nat.{◌<◌}
use Rattle.calls.specs.Answer.{count_of}
use Rattle.calls.proofs.Call.{some_cells, no_cells, all_called, none_called}
use Rattle.rules_double_ranges.proofs.Open.{ranges_bars, ranges_room}
use Rattle.rules.proofs.double_sma_ranges.Goals as goal
use Rattle.rules.proofs.double_sma_ranges.Goals.{Then-has_cells}

due : (c : Then-has_cells) → 0 < count_of c.answer_ranges-due.result
due c = some_cells c.answer_ranges-due.result c.has_cells.ensures c.if-has_cells.true

pub write_ranges-requires : goal.write_ranges-requires
write_ranges-requires c =
    ranges_room _ _ _ _ _ c.answer_ranges-due.ensures (due (goal.at.write_ranges-requires c).Then-has_cells)

pub returns-then-has_cells : goal.returns-then-has_cells
returns-then-has_cells c =
    all_called (ranges_bars _ _ _ _ _) c.answer_ranges-due.ensures
    (due (goal.at.returns-then-has_cells c).Then-has_cells)
    c.write_ranges.ensures

pub returns-else-has_cells : goal.returns-else-has_cells
returns-else-has_cells c =
    let answer = c.answer_ranges-due in
    none_called answer.ensures (no_cells answer.result c.has_cells.ensures c.if-has_cells.false)
