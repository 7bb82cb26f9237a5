-- `squares_side_by_side` meets its contract: each turn adds a square to each lane. Assumes nothing.
use lib.Ieee.{of_bits, neg}
use Rattle.windows.proofs.Lanes.{none_of_lanes}
use Rattle.deviations.proofs.Squares.{plus_squares_in_lanes}
use Rattle.deviations.proofs.squares_side_by_side.Goals as goal

pub loop-k-init : goal.loop-k-init
unfolding of_bits neg
loop-k-init g c = none_of_lanes

pub loop-k-preserved : goal.loop-k-preserved
loop-k-preserved g c = plus_squares_in_lanes _ _ c.loop-k.invariant c.plus_squares-sums.ensures
