-- `index_by` meets its contract: its test is that of `index_by`. Assumes nothing.
use lib.Ieee.{of_bits}
use Rattle.rules_rsi.proofs.bar.index_by.Goals as goal

pub returns-then-down : goal.returns-then-down
returns-then-down c = unfold of_bits in rw c.if-down.true
