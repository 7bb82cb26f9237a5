-- `cell` meets its contract: its tests are those of `wilder_cell`. Assumes nothing.
use lib.Ieee.{of_bits}
use Rattle.averages_wilder.proofs.cell.Goals as goal

pub returns-then-averages-2 : goal.returns-then-averages-2
returns-then-averages-2 c = unfold of_bits in rw (c.if-averages.true, c.if-averages-2.true)

pub returns-else-averages-2 : goal.returns-else-averages-2
returns-else-averages-2 c = unfold of_bits in rw (c.if-averages.true, c.if-averages-2.false)
