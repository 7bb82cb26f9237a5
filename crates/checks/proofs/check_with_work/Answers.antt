-- `check_with_work` meets its contract: the lengths, the room, then the values. Assumes nothing.
use Rattle.std.proofs.Common.{rules}
use Rattle.calls.proofs.Room.{checked_one, slices_work}
use Rattle.checks.proofs.Steps.{stopped, went_on, and_then_assoc}
use Rattle.checks.proofs.check_with_work.Goals as goal

pub returns-in_err-check_lengths : goal.returns-in_err-check_lengths
returns-in_err-check_lengths c =
    rw (checked_one, slices_work, and_then_assoc)
    (stopped _ c.check_lengths.ensures c.in_err-check_lengths.was (search rules))

pub returns-in_err-check_work : goal.returns-in_err-check_work
returns-in_err-check_work c =
    rw (checked_one, slices_work, and_then_assoc)
    (went_on _ c.check_lengths.ensures c.in_ok-check_lengths.was
    (stopped _ c.check_work.ensures c.in_err-check_work.was (search rules)))

pub returns : goal.returns
returns c =
    rw (checked_one, slices_work, and_then_assoc)
    (went_on _ c.check_lengths.ensures c.in_ok-check_lengths.was
    (went_on _ c.check_work.ensures c.in_ok-check_work.was c.check_values.ensures))
