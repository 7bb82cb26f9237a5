-- `is_accepted` meets its contract: a value's two tests. Assumes nothing.
use Rattle.values.specs.Accepted.{accepted}
use Rattle.values.proofs.is_accepted.Goals as goal

pub returns : goal.returns
unfolding accepted
returns c = rw (c.within_limit.ensures, c.minus_zero_bits.ensures)
