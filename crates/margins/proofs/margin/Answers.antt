-- `margin` meets its contract: its constants are 2^-31 and 2^-1000. Assumes nothing.
use lib.Ieee.{of_bits}
use Rattle.margins.proofs.margin.Goals as goal

pub returns : goal.returns
returns c = unfold of_bits in rw c.largest.ensures
