-- `within_limit` meets its contract: each test is a part of `within`. Assumes nothing.
use lib.Ieee.{of_bits, neg}
use Rattle.values.proofs.within_limit.Goals as goal

pub returns-then-x : goal.returns-then-x
returns-then-x c = unfold of_bits neg in simp c.if-x.true

pub returns-else-x : goal.returns-else-x
returns-else-x c = unfold of_bits neg in simp c.if-x.false
