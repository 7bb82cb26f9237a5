-- `has_cells` meets its contract. Assumes nothing.
use Rattle.calls.proofs.has_cells.Goals as goal

pub returns : goal.returns
returns c = rw c.count_of.ensures
