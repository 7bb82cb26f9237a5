-- `answer_tick_window` meets its contract: the slices and values, then the window. Assumes nothing.
use Rattle.std.proofs.Common.{rules}
use Rattle.calls.specs.Answer.{answered}
use Rattle.checks.proofs.Steps.{stopped, went_on}
use Rattle.checks.proofs.answer_tick_window.Goals as goal

pub returns-in_err-check_ticks : goal.returns-in_err-check_ticks
unfolding answered
returns-in_err-check_ticks c =
    (stopped _ c.check_ticks.ensures c.in_err-check_ticks.was (search rules))

pub returns : goal.returns
unfolding answered
returns c =
    (went_on _ c.check_ticks.ensures c.in_ok-check_ticks.was c.check_windows.ensures)
