-- `strength_index` meets its contract: its test is that of `rsi`. Assumes nothing.
use lib.Ieee.{of_bits}
use Rattle.changes.specs.Changes.{rsi}
use Rattle.changes.proofs.strength_index.Goals as goal

pub returns-then-down : goal.returns-then-down
returns-then-down c = unfold rsi of_bits in rw c.if-down.true

pub returns-else-down : goal.returns-else-down
returns-else-down c = unfold rsi of_bits in rw (c.if-down.false, c.strength.ensures)
