-- `close_before` meets its contract: bar 0 is told apart as the definition does. Assumes nothing.
use Rattle.true_range.proofs.TrueRange.{before_first, before_next}
use Rattle.true_range.proofs.close_before.Goals as goal

pub returns-then-i-eq0 : goal.returns-then-i-eq0
returns-then-i-eq0 c = before_first _ _ _ c.if-i-eq0.true

pub returns : goal.returns
returns c = before_next _ _ _ c.if-i-eq0.false
