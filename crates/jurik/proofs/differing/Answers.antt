-- `differing` meets its contract: the two tests. Assumes nothing.
use lib.Ieee.{ne}
use Rattle.jurik.proofs.differing.Goals as goal

pub returns : goal.returns
unfolding ne
returns c = rw c.is_nan.ensures.value
