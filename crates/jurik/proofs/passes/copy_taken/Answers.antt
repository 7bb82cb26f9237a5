-- `copy_taken` meets its contract: numbers stay, and zeros become 0.0. Assumes nothing.
use Rattle.jurik.proofs.Copied.{copied_stands}
use Rattle.jurik.proofs.passes.copy_taken.Goals as goal

pub returns-in-Numbers : goal.returns-in-Numbers
returns-in-Numbers c = rw c.in-Numbers.is (copied_stands _ _)
