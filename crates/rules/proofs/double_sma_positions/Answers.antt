-- `double_sma_positions` meets its contract: whole ticks are written by their own stage; else the answer is that of
-- the table, and where it has cells they are written. Assumes nothing.
use mathlib.Core.Path.{◌≡◌, sym, ◌∙◌}
use mathlib.Core.Bool.{true}
use Prim.Native.Nat.{◌<◌}
use lib.ListN.{length}
use Rattle.calls.specs.Answer.{count_of}
use Rattle.calls.proofs.Call.{some_cells, no_cells, all_called, none_called, counted}
use Rattle.rules_double.specs.inner.Ticks.{tick_cells}
use Rattle.rules_double.proofs.Open.{double_ready, double_bars, tick_room, tick_answer}
use Rattle.rules.proofs.double_sma_positions.Goals as goal
use Rattle.rules.proofs.double_sma_positions.Goals.{Then-has_cells, Then-has_tick_cells}

told : (c : Then-has_tick_cells) → let a = c.args in
    tick_cells a.series.now a.n a.m (length a.out.now) ≡ true
told c = sym c.has_tick_cells.ensures ∙ c.if-has_tick_cells.true

due : (c : Then-has_cells) → 0 < count_of c.answer_double-due.result
due c = some_cells c.answer_double-due.result c.has_cells.ensures c.if-has_cells.true

pub write_double_of_ticks-requires : goal.write_double_of_ticks-requires
write_double_of_ticks-requires c =
    tick_room _ _ _ _ (told (goal.at.write_double_of_ticks-requires c).Then-has_tick_cells)

pub returns-then-has_tick_cells : goal.returns-then-has_tick_cells
returns-then-has_tick_cells c =
    counted (tick_answer _ _ _ _ (told (goal.at.returns-then-has_tick_cells c).Then-has_tick_cells)
    c.shared_slice_known-1.given)
    c.write_double_of_ticks.ensures

pub write_double-requires : goal.write_double-requires
write_double-requires c =
    double_ready _ _ _ _ c.answer_double-due.ensures (due (goal.at.write_double-requires c).Then-has_cells)

pub returns-then-has_cells : goal.returns-then-has_cells
returns-then-has_cells c =
    all_called (double_bars _ _ _ _) c.answer_double-due.ensures (due (goal.at.returns-then-has_cells c).Then-has_cells)
    c.write_double.ensures

pub returns-else-has_cells : goal.returns-else-has_cells
returns-else-has_cells c =
    let answer = c.answer_double-due in
    none_called answer.ensures (no_cells answer.result c.has_cells.ensures c.if-has_cells.false)
