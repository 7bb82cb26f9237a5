-- `against_middle` meets its contract: its tests are those of `against_middle`. Assumes nothing.
use lib.Ieee.{of_bits}
use Rattle.rules_middle.proofs.against_middle.Goals as goal
use Rattle.rules_middle.proofs.against_middle.Goals.{then-high, else-high}

pub returns-else-low : goal.returns-else-low
unfolding of_bits
returns-else-low c =
    elim c.if-high.branch [
      | then-high w ↦ cc
      | else-high w ↦
          rw (w.if-high.false, ← w.value-is, c.if-low.false, c.sign-side.ensures)
    ]
