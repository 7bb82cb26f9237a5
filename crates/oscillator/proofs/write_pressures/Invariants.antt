-- `write_pressures` meets its contract: each turn writes the pressure of its bar. Assumes nothing.
use Rattle.cells.specs.Line.{line}
use Rattle.cells.specs.Written.{Writing}
use Rattle.oscillator.specs.Oscillator.{pressures}
use Rattle.oscillator.proofs.write_pressures.Given as goal

abbrev pub invariant-loop-i : goal.invariant-loop-i
invariant-loop-i l = Writing l.i (pressures l.first (line l.low) (line l.close)) l.initial.out l.out
