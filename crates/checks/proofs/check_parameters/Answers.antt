-- `check_parameters` meets its contract: the table from the top. Assumes nothing.
use Rattle.std.proofs.Common.{refl, sym, ◌∙◌}
use Rattle.checks.proofs.Steps.{refused_there, let_pass, emptied, not_empty}
use Rattle.checks.proofs.check_parameters.Goals as goal

pub returns-then-not-all_finite : goal.returns-then-not-all_finite
returns-then-not-all_finite c = refused_there _ _ (sym c.all_finite.ensures ∙ c.if-not-all_finite.true)

pub returns-then-not-none_above : goal.returns-then-not-none_above
returns-then-not-none_above c =
    let_pass _ _ (sym c.all_finite.ensures ∙ c.if-not-all_finite.false)
    (refused_there _ _ (sym c.none_above.ensures ∙ c.if-not-none_above.true))

pub returns-then-not-none_above-2 : goal.returns-then-not-none_above-2
returns-then-not-none_above-2 c =
    let_pass _ _ (sym c.all_finite.ensures ∙ c.if-not-all_finite.false)
    (let_pass _ _ (sym c.none_above.ensures ∙ c.if-not-none_above.false)
    (refused_there _ _ (sym c.none_above-2.ensures ∙ c.if-not-none_above-2.true)))

pub returns-then-is_empty : goal.returns-then-is_empty
returns-then-is_empty c =
    let_pass _ _ (sym c.all_finite.ensures ∙ c.if-not-all_finite.false)
    (let_pass _ _ (sym c.none_above.ensures ∙ c.if-not-none_above.false)
    (let_pass _ _ (sym c.none_above-2.ensures ∙ c.if-not-none_above-2.false)
    (emptied _ (sym c.is_empty.ensures ∙ c.if-is_empty.true))))

pub returns : goal.returns
returns c =
    let_pass _ _ (sym c.all_finite.ensures ∙ c.if-not-all_finite.false)
    (let_pass _ _ (sym c.none_above.ensures ∙ c.if-not-none_above.false)
    (let_pass _ _ (sym c.none_above-2.ensures ∙ c.if-not-none_above-2.false)
    (not_empty _ (sym c.is_empty.ensures ∙ c.if-is_empty.false) refl)))
