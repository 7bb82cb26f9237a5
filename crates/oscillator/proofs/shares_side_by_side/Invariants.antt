-- `shares_side_by_side` meets its contract: each turn takes a sum over another. Assumes nothing.
use Rattle.std.proofs.Common.{◌≡◌, length}
use Rattle.cells.specs.Line.{line}
use Rattle.cells.specs.Written.{Writing}
use Rattle.oscillator.specs.Oscillator.{ratio}
use Rattle.oscillator.proofs.shares_side_by_side.Given as goal

abbrev pub invariant-loop-lane : goal.invariant-loop-lane
invariant-loop-lane g l =
    (l.lane-end ≡ g.row.N) × (length l.shares ≡ g.row.N) × (length l.under ≡ g.row.N)
    × Writing l.lane (λ j. ratio (line l.initial.shares j) (line l.under j)) l.initial.shares l.shares
