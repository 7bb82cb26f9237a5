-- `check_lengths` meets its contract: the table from the top. Assumes nothing.
use Rattle.std.proofs.Common.{◌≡◌, ℕ, List, [], ◌∷◌, get_or, refl, sym, ◌∙◌}
use Rattle.std.proofs.lemmas.Bool.{le-leb, lt-leb}
use Rattle.values.proofs.All.{and_true}
use Rattle.calls.specs.Answer.{first, slices}
use Rattle.checks.proofs.Steps.{refused_there, let_pass}
use Rattle.checks.proofs.check_lengths.Goals as goal

-- the length of the first series
at_first : (lengths : List ℕ) → get_or lengths 0 0 ≡ first lengths
at_first [] = refl
at_first (l ∷ rest) = refl

pub returns-then-not-none_above : goal.returns-then-not-none_above
unfolding slices
returns-then-not-none_above c = refused_there _ _ (sym c.none_above.ensures ∙ c.if-not-none_above.true)

pub returns-then-not-all_of_length : goal.returns-then-not-all_of_length
unfolding slices
returns-then-not-all_of_length c =
    let_pass _ _ (sym c.none_above.ensures ∙ c.if-not-none_above.false)
    (rw (← at_first)
    (refused_there _ _ (sym c.all_of_length.ensures ∙ c.if-not-all_of_length.true)))

pub returns-then-out-bars : goal.returns-then-out-bars
unfolding slices
returns-then-out-bars c =
    let_pass _ _ (sym c.none_above.ensures ∙ c.if-not-none_above.false)
    (rw (← at_first, and_true)
    (let_pass _ _ (sym c.all_of_length.ensures ∙ c.if-not-all_of_length.false)
    (refused_there _ _ (lt-leb _ _ c.if-out-bars.true))))

pub returns : goal.returns
unfolding slices
returns c =
    let_pass _ _ (sym c.none_above.ensures ∙ c.if-not-none_above.false)
    (rw (← at_first, and_true)
    (let_pass _ _ (sym c.all_of_length.ensures ∙ c.if-not-all_of_length.false)
    (let_pass _ _ (le-leb _ _ c.if-out-bars.false) refl)))
