-- `running_sum` meets its contract: it begins with a window summed afresh, and each turn slides it. Assumes nothing.
use Rattle.cells.specs.Line.{line}
use Rattle.windows.specs.inner.Sums.{Running}
use Rattle.windows.specs.Window.{add_then_subtract}
use Rattle.rules_double.proofs.running_sum.Given as goal

abbrev pub invariant-loop-j : goal.invariant-loop-j
invariant-loop-j l = Running add_then_subtract l.n (line l.series) l.j l.sum
