-- `added` meets its contract: each turn adds a price to its lane. Assumes nothing.
use Rattle.std.proofs.Common.{◌≡◌, ◌+◌, length}
use lib.Ieee.{binary64, add}
use Rattle.cells.specs.Line.{line}
use Rattle.cells.specs.Written.{Writing}
use Rattle.windows.proofs.added.Given as goal

abbrev pub invariant-loop-lane : goal.invariant-loop-lane
invariant-loop-lane g l =
    (l.lane-end ≡ g.row.N) × (length l.sums ≡ g.row.N)
    × Writing l.lane (λ j. add binary64 (line l.initial.sums j) (line l.series (l.at + j))) l.initial.sums l.sums
