-- `answer_double` meets its contract: the series, then the windows and their order. Assumes nothing.
use Rattle.std.proofs.Common.{rules}
use Rattle.calls.specs.Answer.{windowed}
use Rattle.rules_double.specs.Double.{double_answer}
use Rattle.checks.proofs.Steps.{stopped, went_on}
use Rattle.rules_double.proofs.answer_double.Goals as goal

pub returns-in_err-check : goal.returns-in_err-check
unfolding double_answer
returns-in_err-check c =
    stopped _ c.check.ensures c.in_err-check.was (search rules)

pub returns : goal.returns
unfolding double_answer
returns c =
    went_on _ c.check.ensures c.in_ok-check.was
    (rw (c.check_windows.ensures, c.unless_refused-order.ensures))
