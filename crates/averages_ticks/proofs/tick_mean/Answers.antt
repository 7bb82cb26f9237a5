-- `tick_mean` meets its contract: the answer is that of the table, and where it has cells they are written. Assumes
-- nothing.
use Prim.Native.Nat.{◌<◌}
use Rattle.calls.specs.Answer.{count_of}
use Rattle.calls.proofs.Call.{some_cells, all_called}
use Rattle.calls.proofs.Room.{all_bars}
use Rattle.averages_ticks.proofs.Ticks.{tick_room}
use Rattle.averages_ticks.proofs.tick_mean.Goals as goal
use Rattle.averages_ticks.proofs.tick_mean.Goals.{Then-has_cells}

due : (c : Then-has_cells) → 0 < count_of c.answer_tick_window-due.result
due c = some_cells c.answer_tick_window-due.result c.has_cells.ensures c.if-has_cells.true

pub write_tick_means-requires : goal.write_tick_means-requires
write_tick_means-requires c =
    tick_room _ _ _ c.answer_tick_window-due.ensures (due (goal.at.write_tick_means-requires c).Then-has_cells)

pub returns-then-has_cells : goal.returns-then-has_cells
returns-then-has_cells c =
    all_called (all_bars _ _ _ _ _) c.answer_tick_window-due.ensures
    (due (goal.at.returns-then-has_cells c).Then-has_cells)
    c.write_tick_means.ensures
