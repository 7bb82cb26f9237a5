-- `first_mean` meets its contract: the loop sums the first n cells. Assumes nothing.
use Rattle.cells.specs.Line.{line, plus_zero}
use Rattle.windows.specs.inner.Sums.{Summing}
use Rattle.averages_wilder.proofs.first_mean.Given as goal

abbrev pub invariant-loop-x : goal.invariant-loop-x
invariant-loop-x l = Summing plus_zero (line l.series) 0 l.x-index l.sum
