-- `answer_triple` meets its contract: the series, then the windows, the bars and the order. Assumes nothing.
use Rattle.std.proofs.Common.{rules}
use Rattle.calls.specs.Answer.{windowed}
use Rattle.rules_triple.specs.Triple.{triple_answer}
use Rattle.checks.proofs.Steps.{stopped, went_on}
use Rattle.rules_triple.proofs.answer_triple.Goals as goal

pub returns-in_err-check_with_work : goal.returns-in_err-check_with_work
unfolding triple_answer
returns-in_err-check_with_work c =
    stopped _ c.check_with_work.ensures c.in_err-check_with_work.was (search rules)

pub returns : goal.returns
unfolding triple_answer
returns c =
    went_on _ c.check_with_work.ensures c.in_ok-check_with_work.was
    (rw (c.check_windows.ensures, c.unless_refused-long.ensures, c.unless_refused-order.ensures))
