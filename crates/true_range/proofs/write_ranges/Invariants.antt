-- `write_ranges` meets its contract: each turn writes the true range of its bar. Assumes nothing.
use Rattle.cells.specs.Line.{line}
use Rattle.cells.specs.Written.{Writing}
use Rattle.true_range.specs.TrueRange.{true_ranges, given_before}
use Rattle.true_range.specs.inner.Ranging.{back_by}
use Rattle.true_range.proofs.write_ranges.Given as goal

abbrev pub invariant-loop-i : goal.invariant-loop-i
invariant-loop-i l =
    Writing l.i (true_ranges (line l.high) (line l.low) (given_before l.first (back_by l.back (line l.close))))
    l.initial.out l.out
