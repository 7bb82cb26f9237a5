-- `answer_mms` meets its contract: the series, then the windows. Assumes nothing.
use Rattle.std.proofs.Common.{rules}
use Rattle.calls.specs.Answer.{windowed, answered}
use Rattle.checks.proofs.Steps.{stopped, went_on}
use Rattle.rules_mms.proofs.answer_mms.Goals as goal

pub returns-in_err-check_with_work : goal.returns-in_err-check_with_work
unfolding answered
returns-in_err-check_with_work c =
    stopped _ c.check_with_work.ensures c.in_err-check_with_work.was (search rules)

pub returns : goal.returns
unfolding answered
returns c =
    went_on _ c.check_with_work.ensures c.in_ok-check_with_work.was
    c.check_windows.ensures
