-- `cells_side_by_side` meets its contract: each turn weighs three shares. Assumes nothing.
use Rattle.std.proofs.Common.{◌≡◌, length}
use Rattle.cells.specs.Line.{line}
use Rattle.cells.specs.Written.{Writing}
use Rattle.oscillator.specs.Oscillator.{weighed}
use Rattle.oscillator.proofs.cells_side_by_side.Given as goal

abbrev pub invariant-loop-lane : goal.invariant-loop-lane
invariant-loop-lane g l =
    (l.lane-end ≡ g.row.N) × (length l.cells ≡ g.row.N)
    × Writing l.lane (λ j. weighed (line l.initial.cells j) (line l.medium_shares j) (line l.long_shares j))
    l.initial.cells l.cells
