-- `answer_rsx` meets its contract: the series, then the parameters. Assumes nothing.
use Rattle.std.proofs.Common.{rules}
use Rattle.rsx.specs.Rsx.{rsx_answer}
use Rattle.checks.proofs.Steps.{stopped, went_on}
use Rattle.rsx.proofs.answer_rsx.Goals as goal

pub returns-in_err-check_with_work : goal.returns-in_err-check_with_work
unfolding rsx_answer
returns-in_err-check_with_work c =
    stopped _ c.check_with_work.ensures c.in_err-check_with_work.was (search rules)

pub returns : goal.returns
unfolding rsx_answer
returns c =
    went_on _ c.check_with_work.ensures c.in_ok-check_with_work.was
    c.check_parameters.ensures
