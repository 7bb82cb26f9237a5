-- `write_against_means` meets its contract: each turn reads an average that still stands and writes the bar's cell.
-- Assumes nothing.
use Rattle.cells.specs.Line.{line}
use Rattle.cells.specs.Written.{Writing}
use Rattle.rules_single.specs.inner.Positions.{positions}
use Rattle.rules_single.proofs.write_against_means.Given as goal

abbrev pub invariant-loop-i : goal.invariant-loop-i
invariant-loop-i l = Writing l.i (positions l.n (line l.series) (line l.initial.out)) l.initial.out l.out
