-- `squares_side_by_side` meets its contract: each turn adds a square to each lane. Assumes nothing.
use Rattle.cells.specs.Line.{line}
use Rattle.windows.proofs.Lanes.{SummingLanes}
use Rattle.deviations.proofs.Squares.{from_middle}
use Rattle.deviations.proofs.squares_side_by_side.Given as goal

abbrev pub invariant-loop-k : goal.invariant-loop-k
invariant-loop-k g l = SummingLanes g.row.N (λ j. from_middle (line l.middles j) (line l.cells)) l.at l.k l.sums
