-- `answer_true_range` meets its contract: the series, then the close before bar 0. Assumes nothing.
use Rattle.std.proofs.Common.{rules}
use Rattle.true_range.specs.TrueRange.{true_range_answer}
use Rattle.checks.proofs.Steps.{stopped, went_on}
use Rattle.true_range.proofs.answer_true_range.Goals as goal

pub returns-in_err-check_three : goal.returns-in_err-check_three
unfolding true_range_answer
returns-in_err-check_three c =
    stopped _ c.check_three.ensures c.in_err-check_three.was (search rules)

pub returns : goal.returns
unfolding true_range_answer
returns c =
    went_on _ c.check_three.ensures c.in_ok-check_three.was
    c.check_close.ensures
