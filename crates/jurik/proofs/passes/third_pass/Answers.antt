-- `third_pass` meets its contract: it is a pass over the values other than 0. Assumes nothing.
use lib.Ieee.{of_bits}
use Rattle.jurik.proofs.passes.third_pass.Goals as goal

pub returns : goal.returns
returns c = unfold of_bits in c.pass.ensures
