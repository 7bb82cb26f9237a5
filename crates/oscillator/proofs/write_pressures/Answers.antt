-- `write_pressures` meets its contract: each turn writes the pressure of its bar. Assumes nothing.
use native.Mathlib.Omega.{arith}
use Rattle.cells.proofs.Written.{none_written, one_more, ends}
use Rattle.oscillator.proofs.Oscillator.{pressure_at}
use Rattle.oscillator.proofs.write_pressures.Goals as goal

pub loop-i-init : goal.loop-i-init
loop-i-init c = none_written

pub loop-i-preserved : goal.loop-i-preserved
loop-i-preserved c =
    let at = c.loop-i in
    let cell = pressure_at _ _ _ at.i c.pressure_of.ensures c.close_before.ensures in
    one_more at.invariant cell (omega arith)

pub returns : goal.returns
returns c = ends c.loop-i.invariant (omega arith)
