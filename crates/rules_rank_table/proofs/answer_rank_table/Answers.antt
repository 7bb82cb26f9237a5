-- `answer_rank_table` meets its contract: with cells to write the table decides, and else it is not asked.
-- Assumes nothing.
use mathlib.Core.Path.{◌∙◌}
use Rattle.calls.proofs.Call.{some_cells, no_cells}
use Rattle.rules_rank_table.proofs.Open.{table_asked, table_left}
use Rattle.rules_rank_table.proofs.answer_rank_table.Goals as goal

pub returns-then-has_cells : goal.returns-then-has_cells
returns-then-has_cells c =
    let due = c.answer_window_with_work-due in
    let some = some_cells due.result c.has_cells.ensures c.if-has_cells.true in
    c.check_table.ensures ∙ table_asked _ _ _ _ _ due.ensures some

pub returns-else-has_cells : goal.returns-else-has_cells
returns-else-has_cells c =
    let due = c.answer_window_with_work-due in
    table_left _ _ _ _ _ due.ensures (no_cells due.result c.has_cells.ensures c.if-has_cells.false)
