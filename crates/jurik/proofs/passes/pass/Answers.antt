-- `pass` meets its contract: the average from its first bar, or the values as they are. Assumes nothing.
use Rattle.cells.proofs.Written.{writing_same}
use Rattle.jurik.proofs.TwoPasses.{tested_averages}
use Rattle.jurik.proofs.passes.pass.Goals as goal

pub returns-in-Some : goal.returns-in-Some
returns-in-Some c =
    let found = c.in-Some.ensures in
    writing_same (rw c.none.ensures at c.average_from.ensures) (tested_averages _ _ _ _ _ found.1 found.2)
