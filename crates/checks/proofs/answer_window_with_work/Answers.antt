-- `answer_window_with_work` meets its contract: the slices and values, then the window. Assumes nothing.
use Rattle.std.proofs.Common.{rules}
use Rattle.calls.specs.Answer.{answered}
use Rattle.checks.proofs.Steps.{stopped, went_on}
use Rattle.checks.proofs.answer_window_with_work.Goals as goal

pub returns-in_err-check_with_work : goal.returns-in_err-check_with_work
unfolding answered
returns-in_err-check_with_work c =
    (stopped _ c.check_with_work.ensures c.in_err-check_with_work.was (search rules))

pub returns : goal.returns
unfolding answered
returns c =
    (went_on _ c.check_with_work.ensures c.in_ok-check_with_work.was c.check_windows.ensures)
