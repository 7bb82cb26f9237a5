-- `sums_side_by_side` meets its contract: each turn adds a price to each lane. Assumes nothing.
use Rattle.cells.specs.Line.{line}
use Rattle.windows.proofs.Lanes.{SummingLanes}
use Rattle.windows.proofs.sums_side_by_side.Given as goal

abbrev pub invariant-loop-k : goal.invariant-loop-k
invariant-loop-k g l = SummingLanes g.row.N (λ j. line l.series) l.at l.k l.sums
