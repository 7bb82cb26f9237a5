-- `answer_lead` meets its contract: the answer is that of the table, and all its cells stand before bar n - 1.
-- Assumes nothing.
use mathlib.Core.List.{[], ◌∷◌}
use Prim.Native.Nat.{◌<◌}
use native.Mathlib.Omega.{arith}
use lib.ListN.{length}
use Rattle.calls.specs.Answer.{count_of}
use Rattle.calls.proofs.Call.{some_cells, all_called}
use Rattle.calls.proofs.Room.{answered_room, answered_windows, none_fits, all_bars}
use Rattle.cells.proofs.Leads.{lead_only}
use Rattle.averages.proofs.Stages.{window_room}
use Rattle.averages.proofs.answer_lead.Goals as goal
use Rattle.averages.proofs.answer_lead.Goals.{Then-has_cells}

-- where cells are due
due : (c : Then-has_cells) → 0 < count_of c.answer_window-due.result
due c = some_cells c.answer_window-due.result c.has_cells.ensures c.if-has_cells.true

pub overflow_sub-n : goal.overflow_sub-n
overflow_sub-n c =
    (window_room _ _ _ _ c.answer_window-due.ensures (due (goal.at.overflow_sub-n c).Then-has_cells)).window.some

pub fill_nan-requires : goal.fill_nan-requires
fill_nan-requires c =
    (window_room _ _ _ _ c.answer_window-due.ensures (due (goal.at.fill_nan-requires c).Then-has_cells)).room

pub returns-then-has_cells : goal.returns-then-has_cells
returns-then-has_cells c f =
    let answer = c.answer_window-due.ensures in
    let a = c.args in
    let r = answered_room _ _ _ _ _ answer (due (goal.at.returns-then-has_cells c).Then-has_cells) in
    let w = (answered_windows _ _ (a.n ∷ []) _ _ answer (due (goal.at.returns-then-has_cells c).Then-has_cells)).0 in
    let none : length a.series.now < a.n = none_fits (length a.series.now) a.n _ c.requires w
    r.short r.out_long in
    all_called (all_bars _ _ _ _ _) answer (due (goal.at.returns-then-has_cells c).Then-has_cells)
    (lead_only c.fill_nan.ensures f (omega arith))
