-- `gain_of` meets its contract: its test is that of `gain`. Assumes nothing.
use lib.Ieee.{of_bits}
use Rattle.changes.proofs.gain_of.Goals as goal

pub returns-then-change : goal.returns-then-change
returns-then-change c = unfold of_bits in rw c.if-change.true

pub returns-else-change : goal.returns-else-change
returns-else-change c = unfold of_bits in rw c.if-change.false
