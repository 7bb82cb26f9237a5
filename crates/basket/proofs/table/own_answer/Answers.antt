-- `own_answer` meets its contract: one average and the middle answer alike. Assumes nothing.
use mathlib.Core.Path.{◌∙◌}
use Rattle.basket.proofs.Own.{by_two, by_same}
use Rattle.basket.proofs.table.own_answer.Goals as goal

pub returns-then-rule-eq2 : goal.returns-then-rule-eq2
returns-then-rule-eq2 c = c.answer_double.ensures ∙ by_two _ _ _ _ c.if-rule-eq2.true

pub returns-else-rule-eq2 : goal.returns-else-rule-eq2
returns-else-rule-eq2 c = c.answer_window_with_work.ensures ∙ by_same _ _ _ c.if-rule-eq2.false
