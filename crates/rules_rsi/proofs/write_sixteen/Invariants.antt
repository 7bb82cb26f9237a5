-- `write_sixteen` meets its contract: the sums of both rows, and an index with each turn. Assumes nothing.
use Rattle.std.proofs.Common.{◌+◌}
use Rattle.cells.specs.Line.{line}
use Rattle.cells.specs.Written.{Writing}
use Rattle.windows.specs.Window.{mean}
use Rattle.rules_rsi.specs.RsiReverse.{rsi_before}
use Rattle.rules_rsi.proofs.write_sixteen.Given as goal

abbrev pub invariant-loop-lane : goal.invariant-loop-lane
invariant-loop-lane l =
    Writing (l.i + l.lane) (rsi_before l.n (mean l.n (line l.series))) l.initial.work l.work
