-- `weighted` meets its contract: its tests are those of the position's whole number. Assumes nothing.
use lib.Ieee.{of_bits}
use Rattle.basket.proofs.Weights.{minus_fits, weighted_long, weighted_short, weighted_flat}
use Rattle.basket.proofs.nets.weighted.Goals as goal

pub overflow_sub-result : goal.overflow_sub-result
overflow_sub-result c = minus_fits c.args.weight c.requires

pub returns-then-position : goal.returns-then-position
unfolding of_bits
returns-then-position c = weighted_long c.args.weight c.requires c.args.position c.if-position.true

pub returns-then-position-2 : goal.returns-then-position-2
unfolding of_bits
returns-then-position-2 c =
    weighted_short c.args.weight c.requires c.args.position c.if-position.false c.if-position-2.true

pub returns-else-position-2 : goal.returns-else-position-2
unfolding of_bits
returns-else-position-2 c =
    weighted_flat c.args.weight c.requires c.args.position c.if-position.false c.if-position-2.false
