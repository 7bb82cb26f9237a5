-- `check_ranges` meets its contract: the lengths, then the values of each series, then their order. Assumes nothing.
use Rattle.std.proofs.Common.{rules}
use Rattle.checks.proofs.Two.{checked_two, ranged_both}
use Rattle.checks.proofs.Steps.{stopped, went_on, and_then_assoc}
use Rattle.checks.proofs.check_ranges.Goals as goal

pub returns-in_err-check_lengths : goal.returns-in_err-check_lengths
returns-in_err-check_lengths c =
    rw (← ranged_both, checked_two, and_then_assoc, and_then_assoc)
    (stopped _ c.check_lengths.ensures c.in_err-check_lengths.was (search rules))

pub returns-in_err-check_tick_values : goal.returns-in_err-check_tick_values
returns-in_err-check_tick_values c =
    rw (← ranged_both, checked_two, and_then_assoc, and_then_assoc)
    (went_on _ c.check_lengths.ensures c.in_ok-check_lengths.was
    (stopped _ c.check_tick_values.ensures c.in_err-check_tick_values.was (search rules)))

pub returns-in_err-check_tick_values-2 : goal.returns-in_err-check_tick_values-2
returns-in_err-check_tick_values-2 c =
    rw (← ranged_both, checked_two, and_then_assoc, and_then_assoc)
    (went_on _ c.check_lengths.ensures c.in_ok-check_lengths.was
    (went_on _ c.check_tick_values.ensures c.in_ok-check_tick_values.was
    (stopped _ c.check_tick_values-2.ensures c.in_err-check_tick_values-2.was (search rules))))

pub returns : goal.returns
returns c =
    rw (← ranged_both, checked_two, and_then_assoc, and_then_assoc)
    (went_on _ c.check_lengths.ensures c.in_ok-check_lengths.was
    (went_on _ c.check_tick_values.ensures c.in_ok-check_tick_values.was
    (went_on _ c.check_tick_values-2.ensures c.in_ok-check_tick_values-2.was c.check_order.ensures)))
