-- `write_against_middles` meets its contract: each turn reads a mean that still stands and its range, and writes the
-- bar's cell. Assumes nothing.
use Rattle.cells.specs.Line.{line}
use Rattle.cells.specs.Written.{Writing}
use Rattle.rules_middle.specs.inner.Positions.{positions}
use Rattle.rules_middle.proofs.write_against_middles.Given as goal

abbrev pub invariant-loop-i : goal.invariant-loop-i
invariant-loop-i l = Writing l.i (positions l.n l.bars (line l.initial.out) (line l.work)) l.initial.out l.out
