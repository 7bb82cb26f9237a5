-- `cap` meets its contract: its test is that of `capped`. Assumes nothing.
use lib.Ieee.{of_bits}
use Rattle.values.specs.inner.Quick.{capped}
use Rattle.values.proofs.cap.Goals as goal

pub returns-then-x : goal.returns-then-x
returns-then-x c = unfold of_bits capped in simp c.if-x.true

pub returns-else-x : goal.returns-else-x
returns-else-x c = unfold of_bits capped in simp c.if-x.false
