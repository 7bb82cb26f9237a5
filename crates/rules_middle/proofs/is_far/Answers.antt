-- `is_far` meets its contract: its tests are those of `far_from_middle`. Assumes nothing.
use lib.Ieee.{of_bits}
use Rattle.rules_middle.proofs.is_far.Goals as goal
use Rattle.rules_middle.proofs.is_far.Goals.{then-d-magnitude, else-d-magnitude}

pub returns-then-d-magnitude-2 : goal.returns-then-d-magnitude-2
unfolding of_bits
returns-then-d-magnitude-2 c =
    elim c.if-d-magnitude.branch [
      | then-d-magnitude w ↦
          rw (
            ← c.magnitude.ensures,
            w.if-d-magnitude.true,
            ← w.magnitude-then-d-magnitude.ensures,
            ← w.value-is,
            c.if-d-magnitude-2.true,
            c.magnitude-then-d-magnitude-2.ensures,
          )
      | else-d-magnitude w ↦ cc
    ]

pub returns-else-d-magnitude-2 : goal.returns-else-d-magnitude-2
unfolding of_bits
returns-else-d-magnitude-2 c =
    elim c.if-d-magnitude.branch [
      | then-d-magnitude w ↦
          rw (
            ← c.magnitude.ensures,
            w.if-d-magnitude.true,
            ← w.magnitude-then-d-magnitude.ensures,
            ← w.value-is,
            c.if-d-magnitude-2.false,
          )
      | else-d-magnitude w ↦ rw (← c.magnitude.ensures, w.if-d-magnitude.false, c.if-d-magnitude-2.false)
    ]
