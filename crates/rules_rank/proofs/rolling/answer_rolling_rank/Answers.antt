-- `answer_rolling_rank` meets its contract: the series, then the window; no bars give no cells. Assumes nothing.
use Rattle.std.proofs.Common.{◌≡◌, ℕ, zero, suc, [], ◌∷◌, Ok, leb, refl, sym, ◌∙◌, arith, ne_eqb, rules}
use Rattle.limits.specs.Limits.{longest_window}
use Rattle.calls.specs.Answer.{any_zero, empty_if, limited, unless, unless_empty}
use Rattle.calls.specs.declared.Refusal.TheVariants.{WindowTooLong}
use Rattle.rules_rank.specs.RollingRank.{rolling_rank_answer}
use Rattle.values.proofs.All.{and_true}
use Rattle.checks.proofs.Steps.{stopped, went_on}
use Rattle.rules_rank.proofs.rolling.answer_rolling_rank.Goals as goal

-- no bars, no cells: the count is the same
no_bars : (l : ℕ) → empty_if (any_zero (l ∷ [])) (Ok l) ≡ Ok l
no_bars zero = refl
no_bars (suc l) = rw (ne_eqb (suc l) 0 (omega arith)) refl

-- so only the window is left to refuse
rest : (w l : ℕ) → limited [] (w ∷ []) [] (unless_empty l [] [] (Ok l))
    ≡ unless (leb w longest_window) WindowTooLong (Ok l)
rest w l = rw (and_true, no_bars l) refl

pub returns-in_err-check_with_work : goal.returns-in_err-check_with_work
unfolding rolling_rank_answer
returns-in_err-check_with_work c = stopped _ c.check_with_work.ensures c.in_err-check_with_work.was (search rules)

pub returns : goal.returns
unfolding rolling_rank_answer
returns c =
    went_on _ c.check_with_work.ensures c.in_ok-check_with_work.was
    (c.unless_refused.ensures ∙ sym (rest _ _))
