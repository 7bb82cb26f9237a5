-- `write_averaged_jv` meets its contract: both passes average where the price changes differ, and their averages too.
-- Assumes nothing.
use native.Mathlib.Omega.{arith}
use lib.ListN.{length}
use lib.Ieee.{of_bits}
use Rattle.cells.specs.Line.{line}
use Rattle.windows.proofs.Window.{count_is_float}
use Rattle.jurik.proofs.Fused.{both_average, none_average}
use Rattle.jurik.proofs.write_averaged_jv.Goals as goal

pub int_to_float-alpha1 : goal.int_to_float-alpha1
int_to_float-alpha1 c = count_is_float _ (omega arith)

pub average_twice-requires : goal.average_twice-requires
average_twice-requires c = let d = c.changes_differ.ensures c.if-changes_differ.true in
    (d.start.bars, omega arith)

pub returns-then-changes_differ : goal.returns-then-changes_differ
unfolding of_bits
returns-then-changes_differ c =
    let a = c.args in
    let differ = c.changes_differ.ensures c.if-changes_differ.true in
    both_average (length a.close.now) a.n (line a.close.now) differ c.average_twice.ensures

pub returns-else-changes_differ : goal.returns-else-changes_differ
returns-else-changes_differ c = none_average
