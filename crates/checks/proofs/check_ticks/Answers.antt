-- `check_ticks` meets its contract: the lengths, then the values. Assumes nothing.
use Rattle.std.proofs.Common.{rules}
use Rattle.calls.specs.Answer.{checked}
use Rattle.values.proofs.All.{and_true}
use Rattle.checks.proofs.Steps.{stopped, went_on}
use Rattle.checks.proofs.check_ticks.Goals as goal

pub returns-in_err-check_lengths : goal.returns-in_err-check_lengths
unfolding checked
returns-in_err-check_lengths c = stopped _ c.check_lengths.ensures c.in_err-check_lengths.was (search rules)

pub returns : goal.returns
unfolding checked
returns c = went_on _ c.check_lengths.ensures c.in_ok-check_lengths.was (rw (and_true) c.check_tick_values.ensures)
