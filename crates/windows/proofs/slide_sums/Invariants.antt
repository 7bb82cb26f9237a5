-- `slide_sums` meets its contract: each turn slides the sum and writes it. Assumes nothing.
use Rattle.cells.specs.Line.{line}
use Rattle.cells.specs.Written.{Writing}
use Rattle.windows.specs.Window.{add_difference}
use Rattle.windows.specs.inner.Sums.{Running}
use Rattle.windows.specs.inner.RunningSums.{running_sums}
use Rattle.windows.proofs.slide_sums.Given as goal

abbrev pub invariant-loop-i : goal.invariant-loop-i
invariant-loop-i l =
    Writing l.i (running_sums l.n (line l.series)) l.fn.sums l.sums
    × Running add_difference l.n (line l.series) l.i l.sum
