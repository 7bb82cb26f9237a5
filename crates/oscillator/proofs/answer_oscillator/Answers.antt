-- `answer_oscillator` meets its contract: the series, the close before bar 0, then the windows. Assumes nothing.
use Rattle.std.proofs.Common.{rules}
use Rattle.oscillator.specs.Oscillator.{oscillator_answer}
use Rattle.checks.proofs.Steps.{stopped, went_on, stopped_there, passed_there}
use Rattle.oscillator.proofs.answer_oscillator.Goals as goal

pub returns-in_err-check_three_with_work : goal.returns-in_err-check_three_with_work
unfolding oscillator_answer
returns-in_err-check_three_with_work c =
    stopped _ c.check_three_with_work.ensures c.in_err-check_three_with_work.was (search rules)

pub returns-in_err-check_close : goal.returns-in_err-check_close
unfolding oscillator_answer
returns-in_err-check_close c =
    went_on _ c.check_three_with_work.ensures c.in_ok-check_three_with_work.was
    (stopped_there _ _ _ _ c.check_close.ensures c.in_err-check_close.was (search rules))

pub returns : goal.returns
unfolding oscillator_answer
returns c =
    went_on _ c.check_three_with_work.ensures c.in_ok-check_three_with_work.was
    (passed_there _ _ _ _ c.check_close.ensures c.in_ok-check_close.was c.check_windows.ensures)
