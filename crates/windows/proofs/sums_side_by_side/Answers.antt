-- `sums_side_by_side` meets its contract: each turn adds a price to each lane. Assumes nothing.
use native.Mathlib.Omega.{arith}
use lib.Ieee.{of_bits, neg}
use Rattle.windows.proofs.Lanes.{none_of_lanes, plus_in_lanes, sums_of_lanes}
use Rattle.windows.proofs.sums_side_by_side.Goals as goal

pub loop-k-init : goal.loop-k-init
unfolding of_bits neg
loop-k-init g c = none_of_lanes

pub loop-k-preserved : goal.loop-k-preserved
loop-k-preserved g c = plus_in_lanes c.loop-k.invariant c.added-sums.ensures

pub returns : goal.returns
returns g c = sums_of_lanes _ _ c.loop-k.invariant (omega arith)
