-- `root_by` meets its contract: what is not above zero is a zero or has no root. Assumes nothing.
use lib.Ieee.{of_bits, div}
use Rattle.rounding_root.proofs.Patterns.{of_zero, of_none}
use Rattle.rounding_root.proofs.root_by.Goals as goal

pub returns-then-x-2 : goal.returns-then-x-2
returns-then-x-2 c = unfold of_bits in of_zero _ c.if-x-2.true

pub returns : goal.returns
returns c = unfold of_bits div in of_none _ c.if-x.false c.if-x-2.false
