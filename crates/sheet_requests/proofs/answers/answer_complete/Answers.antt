-- `answer_complete` meets its contract: the rule is asked for one of the desks, and for no other. Assumes nothing.
use mathlib.Core.Path.{refl, sym, ◌∙◌}
use native.Mathlib.Omega.{arith}
use lib.ListN.{take}
use Rattle.sheet_requests.proofs.answers.answer_complete.Goals as goal

pub answer_by_rule-requires : goal.answer_by_rule-requires
answer_by_rule-requires c = (sym c.is_desk.ensures ∙ c.if-is_desk.true, c.requires.0, c.requires.1, c.requires.2)

pub refuse_desk-requires : goal.refuse_desk-requires
refuse_desk-requires c = (sym c.is_desk.ensures ∙ c.if-is_desk.false, omega (arith, c.requires.2))

pub returns-else-is_desk : goal.returns-else-is_desk
returns-else-is_desk c =
    let series = c.args.series.now in
    let (made, stage, filled) = c.refuse_desk.ensures in
    (made series (take c.args.request.bars series), stage, omega (arith, filled), refl)
