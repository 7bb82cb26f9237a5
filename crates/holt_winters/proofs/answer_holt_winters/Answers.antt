-- `answer_holt_winters` meets its contract: the series, then the parameters. Assumes nothing.
use Rattle.std.proofs.Common.{rules}
use Rattle.holt_winters.specs.HoltWinters.{holt_winters_answer}
use Rattle.checks.proofs.Steps.{stopped, went_on}
use Rattle.holt_winters.proofs.answer_holt_winters.Goals as goal

pub returns-in_err-check_with_work : goal.returns-in_err-check_with_work
unfolding holt_winters_answer
returns-in_err-check_with_work c =
    stopped _ c.check_with_work.ensures c.in_err-check_with_work.was (search rules)

pub returns : goal.returns
unfolding holt_winters_answer
returns c =
    went_on _ c.check_with_work.ensures c.in_ok-check_with_work.was
    (rw (c.check_parameters.ensures, c.empty_if-whole.ensures))
