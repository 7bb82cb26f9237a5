-- `triple_sma_positions` meets its contract: the answer is the table's, and where it has cells they are written and
-- the work slice is cleared. Assumes nothing.
use native.Mathlib.Omega.{arith}
use borrow.Author.Rules.{rules}
use lib.ListN.{length}
use Rattle.checks.specs.inner.Due.{Priced}
use Rattle.checks.proofs.Due.{fewer_rows, written_call, empty_call}
use Rattle.rules_triple.specs.inner.Stages.{Rising}
use Rattle.rules_triple.proofs.Open.{triple_bars, triple_clearable, triple_priced}
use Rattle.rules.proofs.triple_sma_positions.Goals as goal
use Rattle.rules.proofs.triple_sma_positions.Goals.{Then-cells_due}

-- where cells are due
opened : (c : Then-cells_due) →
    let a = c.args in
    Priced 8 a.m1 a.series.now (length a.out.now)
    (length c.cells_due.new.work)
    × Rising a.m1 a.m2 a.m3
opened c =
    triple_priced _ _ _ _ _ c.answer_triple-due.ensures c.cells_due.ensures c.if-cells_due.true

pub cells_due-requires : goal.cells_due-requires
cells_due-requires c = triple_clearable _ _ _ _ _ _ c.answer_triple-due.ensures

pub write_triple-requires : goal.write_triple-requires
write_triple-requires c =
    let o =
    opened (goal.at.write_triple-requires c).Then-cells_due in
    (record { priced = fewer_rows o.0 (omega arith); rising = o.1 })

pub overflow_mul-series : goal.overflow_mul-series
overflow_mul-series c = let o = opened (goal.at.overflow_mul-series c).Then-cells_due in search rules

pub clear-requires : goal.clear-requires
clear-requires c = let o = opened (goal.at.clear-requires c).Then-cells_due in search rules

pub returns-then-cells_due : goal.returns-then-cells_due
returns-then-cells_due c =
    let yes = rw c.if-cells_due.true at c.cells_due.ensures in
    written_call c.answer_triple-due.ensures (triple_bars _ _ _ _ _ _) yes
    c.write_triple.ensures
    (omega arith) c.clear.ensures

pub returns-else-cells_due : goal.returns-else-cells_due
returns-else-cells_due c = empty_call c.answer_triple-due.ensures (rw c.if-cells_due.false at c.cells_due.ensures)
