-- `answer_window` meets its contract: the slices and values, then the window. Assumes nothing.
use Rattle.std.proofs.Common.{rules}
use Rattle.calls.specs.Answer.{answered}
use Rattle.checks.proofs.Steps.{stopped, went_on}
use Rattle.checks.proofs.answer_window.Goals as goal

pub returns-in_err-check : goal.returns-in_err-check
unfolding answered
returns-in_err-check c =
    (stopped _ c.check.ensures c.in_err-check.was (search rules))

pub returns : goal.returns
unfolding answered
returns c =
    (went_on _ c.check.ensures c.in_ok-check.was c.check_windows.ensures)
