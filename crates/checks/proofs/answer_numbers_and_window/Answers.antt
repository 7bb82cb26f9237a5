-- `answer_numbers_and_window` meets its contract: the slices and values, then the parameters. Assumes nothing.
use Rattle.std.proofs.Common.{rules}
use Rattle.calls.specs.Answer.{answered_with}
use Rattle.checks.proofs.Steps.{stopped, went_on}
use Rattle.checks.proofs.answer_numbers_and_window.Goals as goal

pub returns-in_err-check_with_work : goal.returns-in_err-check_with_work
unfolding answered_with
returns-in_err-check_with_work c = stopped _ c.check_with_work.ensures c.in_err-check_with_work.was (search rules)

pub returns : goal.returns
unfolding answered_with
returns c = went_on _ c.check_with_work.ensures c.in_ok-check_with_work.was c.check_parameters.ensures
