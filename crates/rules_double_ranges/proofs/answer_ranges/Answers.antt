-- `answer_ranges` meets its contract: the series, then the windows and their order. Assumes nothing.
use Rattle.std.proofs.Common.{rules}
use Rattle.calls.specs.Answer.{windowed}
use Rattle.rules_double_ranges.specs.Ranges.{ranges_answer}
use Rattle.checks.proofs.Steps.{stopped, went_on}
use Rattle.rules_double_ranges.proofs.answer_ranges.Goals as goal

pub returns-in_err-check_ranges : goal.returns-in_err-check_ranges
unfolding ranges_answer
returns-in_err-check_ranges c =
    stopped _ c.check_ranges.ensures c.in_err-check_ranges.was (search rules)

pub returns : goal.returns
unfolding ranges_answer
returns c =
    went_on _ c.check_ranges.ensures c.in_ok-check_ranges.was
    (rw (c.check_windows.ensures, c.unless_refused-order.ensures))
