-- `distance` meets its contract: a distance below 0 on whole ticks, and else the margin. Assumes nothing.
use lib.Ieee.{of_bits, neg}
use Rattle.rules_ema.proofs.far.distance.Goals as goal

pub returns-then-ticks : goal.returns-then-ticks
unfolding of_bits neg
returns-then-ticks c = rw c.if-ticks.true
