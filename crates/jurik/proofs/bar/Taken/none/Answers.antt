-- `Taken::none` meets its contract: a NaN, or +0.0. Assumes nothing.
use lib.Ieee.{of_bits}
use Rattle.jurik.proofs.bar.Taken.none.Goals as goal

pub returns-in-Numbers : goal.returns-in-Numbers
unfolding of_bits
returns-in-Numbers c = rw c.in-Numbers.is
