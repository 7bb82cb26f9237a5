-- `write_first` meets its contract: each turn copies a price and keeps its seasonal part. Assumes nothing.
use lib.ListN.{length}
use Rattle.cells.specs.Line.{line}
use Rattle.holt_winters.specs.inner.Stages.{First}
use Rattle.holt_winters.proofs.write_first.Given as goal

abbrev pub invariant-loop-i : goal.invariant-loop-i
invariant-loop-i l =
    First l.average (line l.series) (length l.series) l.i l.initial.out l.out l.initial.work l.work
