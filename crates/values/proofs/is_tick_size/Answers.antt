-- `is_tick_size` meets its contract: a magnitude within 2 ^ 24 is whole if it comes back. Assumes nothing.
use lib.Ieee.{of_bits}
use Rattle.values.proofs.Fraction.{size_tick}
use Rattle.values.proofs.is_tick_size.Goals as goal

pub returns : goal.returns
unfolding of_bits
returns c = rw (c.is_whole.ensures, c.magnitude-size.ensures) (size_tick c.args.x)
