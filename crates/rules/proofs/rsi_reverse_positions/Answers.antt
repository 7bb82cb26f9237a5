-- `rsi_reverse_positions` meets its contract: the answer is the table's, and where it has cells they are written and
-- the work slice is cleared. Assumes nothing.
use Prim.Native.Nat.{◌<◌}
use native.Mathlib.Omega.{arith}
use borrow.Author.Rules.{rules}
use lib.ListN.{length}
use Rattle.calls.proofs.Room.{with_bars}
use Rattle.checks.specs.inner.Due.{Priced}
use Rattle.checks.proofs.Due.{fewer_rows, written_call, empty_call}
use Rattle.checks.proofs.Table.{with_clearable, with_priced}
use Rattle.rules.proofs.rsi_reverse_positions.Goals as goal
use Rattle.rules.proofs.rsi_reverse_positions.Goals.{Then-cells_due}

-- where cells are due
opened : (c : Then-cells_due) →
    let a = c.args in
    Priced 8 a.n a.series.now (length a.out.now)
    (length c.cells_due.new.work)
    × (0 < length a.series.now)
opened c =
    with_priced _ _ _ _ c.answer_numbers_and_window-due.ensures c.cells_due.ensures
    c.if-cells_due.true

pub cells_due-requires : goal.cells_due-requires
cells_due-requires c = with_clearable _ _ _ _ _ c.answer_numbers_and_window-due.ensures

pub write_rsi_reverse-requires : goal.write_rsi_reverse-requires
write_rsi_reverse-requires c =
    let (priced, some) =
    opened (goal.at.write_rsi_reverse-requires c).Then-cells_due in
    (record { priced = fewer_rows priced (omega arith); series_nonzero = some })

pub overflow_mul-series : goal.overflow_mul-series
overflow_mul-series c = let o = opened (goal.at.overflow_mul-series c).Then-cells_due in search rules

pub clear-requires : goal.clear-requires
clear-requires c = let o = opened (goal.at.clear-requires c).Then-cells_due in search rules

pub returns-then-cells_due : goal.returns-then-cells_due
returns-then-cells_due c =
    written_call c.answer_numbers_and_window-due.ensures (with_bars _ _ _ _ _ _)
    (rw c.if-cells_due.true at c.cells_due.ensures) c.write_rsi_reverse.ensures (omega arith)
    c.clear.ensures

pub returns-else-cells_due : goal.returns-else-cells_due
returns-else-cells_due c =
    empty_call c.answer_numbers_and_window-due.ensures
    (rw c.if-cells_due.false at c.cells_due.ensures)
