-- `range_of` meets its contract: each turn joins one bar. Assumes nothing.
use Prim.Native.Nat.{◌+◌, ◌-◌}
use native.Mathlib.Omega.{arith}
use Rattle.cells.proofs.Parts.{lent_long, lent_cell}
use Rattle.extremes.proofs.Range.{one_bar_lem, spans, joins}
use Rattle.extremes.proofs.ranges.range_of.Goals as goal

pub loop-x-init : goal.loop-x-init
loop-x-init c = spans (one_bar_lem _ c.of_one-best.ensures) (omega arith)

pub loop-x-preserved : goal.loop-x-preserved
loop-x-preserved c =
    let a = c.args in
    let i = c.loop-x.x-index in
    let from = a.a + 1 in
    let long = lent_long from (a.e + 1) a.cells.now (omega arith) in
    let cell = lent_cell from (a.e + 1 - from) i a.cells.now (omega arith) in
    let next = one_bar_lem (from + i) (rw cell at c.of_one.ensures) in
    spans (joins c.requires.2 c.loop-x.invariant next c.join-best.ensures (omega arith)) (omega arith)
