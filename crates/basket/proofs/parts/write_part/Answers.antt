-- `write_part` meets its contract: the rule's number picks the stage. Assumes nothing.
use borrow.Author.Tests.{eq-eqb, ne_eqb}
use Rattle.basket.proofs.parts.write_part.Goals as goal

pub returns-then-rule-eq1 : goal.returns-then-rule-eq1
returns-then-rule-eq1 c = rw (eq-eqb _ _ c.if-rule-eq1.true) c.write_single.ensures

pub returns-else-rule-eq1 : goal.returns-else-rule-eq1
returns-else-rule-eq1 c = rw (ne_eqb _ _ c.if-rule-eq1.false) c.write_mid.ensures
