-- `cells_of_ticks` meets its contract: each turn slides three windows and writes a cell. Assumes nothing.
use native.Mathlib.Omega.{arith}
use Rattle.oscillator.proofs.TickCells.{more_cells}
use Rattle.oscillator.proofs.ticks.cells_of_ticks.Goals as goal

pub loop-i-init : goal.loop-i-init
loop-i-init c =
    let a = c.args in
    let begun = c.requires.begun.0 in
    let inside = c.requires.begun.1 in
    more_cells a.pressures.now a.ranges.now begun.cells
    (c.sums_at-short_sums.ensures, c.sums_at-medium_sums.ensures, c.sums_at-long_sums.ensures) c.cell_of.ensures
    (omega (arith, begun.past_lead), omega (arith, begun.room))

pub loop-i-preserved : goal.loop-i-preserved
loop-i-preserved c =
    let a = c.args in
    let begun = c.requires.begun.0 in
    more_cells a.pressures.now a.ranges.now c.loop-i.invariant.0
    (c.slid-short_sums.ensures, c.slid-medium_sums.ensures, c.slid-long_sums.ensures) c.cell_of-in-loop-i.ensures
    (omega (arith, begun.past_lead), omega (arith, begun.room))
