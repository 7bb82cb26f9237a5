-- `jurik_volty` meets its contract: the answer is the table's, and where it has cells they are written and the work
-- slice is cleared. Assumes nothing.
use mathlib.Core.Path.{refl}
use native.Mathlib.Omega.{arith}
use borrow.Author.Rules.{rules}
use lib.ListN.{length, length-take}
use Rattle.cells.proofs.Touched.{untouched}
use Rattle.cells.proofs.Written.{lent_front}
use Rattle.calls.proofs.Room.{with_bars}
use Rattle.checks.specs.inner.Due.{Priced}
use Rattle.checks.proofs.Due.{written_call, empty_call}
use Rattle.checks.proofs.Table.{with_clearable, with_priced}
use Rattle.jurik.proofs.jurik_volty.Goals as goal
use Rattle.jurik.proofs.jurik_volty.Goals.{Then-cells_due}

-- where cells are due
opened : (c : Then-cells_due) →
    let a = c.args in
    Priced 8 a.period a.close.now (length a.out.now)
    (length c.cells_due.new.work)
opened c =
    (with_priced _ _ _ _ c.answer_numbers_and_window-due.ensures c.cells_due.ensures
    c.if-cells_due.true).0

pub cells_due-requires : goal.cells_due-requires
cells_due-requires c = with_clearable _ _ _ _ _ c.answer_numbers_and_window-due.ensures

pub slice_bounds-write_jurik-end : goal.slice_bounds-write_jurik-end
slice_bounds-write_jurik-end c =
    let o = opened (goal.at.slice_bounds-write_jurik-end c).Then-cells_due in
    search rules

pub slice_bounds-write_jurik-end-then-cells_due : goal.slice_bounds-write_jurik-end-then-cells_due
slice_bounds-write_jurik-end-then-cells_due c =
    let o = opened (goal.at.slice_bounds-write_jurik-end-then-cells_due c).Then-cells_due in
    let close = c.args.close.now in
    omega (arith, length-take (length close) c.args.out.now, o.out_long)

pub write_jurik-requires : goal.write_jurik-requires
write_jurik-requires c = let o = opened (goal.at.write_jurik-requires c).Then-cells_due in search rules

pub overflow_mul-close : goal.overflow_mul-close
overflow_mul-close c = let o = opened (goal.at.overflow_mul-close c).Then-cells_due in search rules

pub clear-requires : goal.clear-requires
clear-requires c = let o = opened (goal.at.clear-requires c).Then-cells_due in search rules

pub returns-then-cells_due : goal.returns-then-cells_due
returns-then-cells_due c =
    written_call c.answer_numbers_and_window-due.ensures (with_bars _ _ _ _ _ _)
    (rw c.if-cells_due.true at c.cells_due.ensures) (lent_front c.write_jurik.ensures refl, untouched {k = 0})
    (omega arith)
    c.clear.ensures

pub returns-else-cells_due : goal.returns-else-cells_due
returns-else-cells_due c =
    empty_call c.answer_numbers_and_window-due.ensures
    (rw c.if-cells_due.false at c.cells_due.ensures)
