-- `sum_more` meets its contract: each turn adds one price. Assumes nothing.
use Rattle.cells.specs.Line.{line}
use Rattle.windows.specs.inner.Sums.{Summing}
use Rattle.windows.proofs.sum_more.Given as goal

abbrev pub invariant-loop-x : goal.invariant-loop-x
invariant-loop-x l = Summing l.sum (line l.series) l.at l.x-index l.more
