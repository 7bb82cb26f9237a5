-- `Taken::takes` meets its contract: the two tests. Assumes nothing.
use lib.Ieee.{ne, of_bits}
use Rattle.jurik.proofs.bar.Taken.takes.Goals as goal

pub returns-in-Nonzero : goal.returns-in-Nonzero
unfolding ne of_bits
returns-in-Nonzero c = rw c.in-Nonzero.is
