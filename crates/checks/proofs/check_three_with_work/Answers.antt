-- `check_three_with_work` meets its contract: the lengths, the room, then the values of each series. Assumes nothing.
use Rattle.std.proofs.Common.{rules}
use Rattle.calls.proofs.Room.{slices_work}
use Rattle.checks.proofs.Three.{checked_three}
use Rattle.checks.proofs.Steps.{stopped, went_on, and_then_assoc}
use Rattle.checks.proofs.check_three_with_work.Goals as goal

pub returns-in_err-check_lengths : goal.returns-in_err-check_lengths
returns-in_err-check_lengths c =
    rw (checked_three, slices_work, and_then_assoc, and_then_assoc, and_then_assoc)
    (stopped _ c.check_lengths.ensures c.in_err-check_lengths.was (search rules))

pub returns-in_err-check_work : goal.returns-in_err-check_work
returns-in_err-check_work c =
    rw (checked_three, slices_work, and_then_assoc, and_then_assoc, and_then_assoc)
    (went_on _ c.check_lengths.ensures c.in_ok-check_lengths.was
    (stopped _ c.check_work.ensures c.in_err-check_work.was (search rules)))

pub returns-in_err-check_values : goal.returns-in_err-check_values
returns-in_err-check_values c =
    rw (checked_three, slices_work, and_then_assoc, and_then_assoc, and_then_assoc)
    (went_on _ c.check_lengths.ensures c.in_ok-check_lengths.was
    (went_on _ c.check_work.ensures c.in_ok-check_work.was
    (stopped _ c.check_values.ensures c.in_err-check_values.was (search rules))))

pub returns-in_err-check_values-2 : goal.returns-in_err-check_values-2
returns-in_err-check_values-2 c =
    rw (checked_three, slices_work, and_then_assoc, and_then_assoc, and_then_assoc)
    (went_on _ c.check_lengths.ensures c.in_ok-check_lengths.was
    (went_on _ c.check_work.ensures c.in_ok-check_work.was
    (went_on _ c.check_values.ensures c.in_ok-check_values.was
    (stopped _ c.check_values-2.ensures c.in_err-check_values-2.was (search rules)))))

pub returns : goal.returns
returns c =
    rw (checked_three, slices_work, and_then_assoc, and_then_assoc, and_then_assoc)
    (went_on _ c.check_lengths.ensures c.in_ok-check_lengths.was
    (went_on _ c.check_work.ensures c.in_ok-check_work.was
    (went_on _ c.check_values.ensures c.in_ok-check_values.was
    (went_on _ c.check_values-2.ensures c.in_ok-check_values-2.was c.check_values-3.ensures))))
