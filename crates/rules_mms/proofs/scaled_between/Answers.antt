-- `scaled_between` meets its contract: its test is that of `scaled_between`. Assumes nothing.
use lib.Ieee.{of_bits, round}
use Rattle.rounding.specs.Literals.{ten_to_minus}
use Rattle.rules_mms.proofs.scaled_between.Goals as goal

pub returns-then-magnitude : goal.returns-then-magnitude
unfolding of_bits ten_to_minus round
returns-then-magnitude c = rw (← c.magnitude.ensures, c.if-magnitude.true)

pub returns-else-magnitude : goal.returns-else-magnitude
unfolding of_bits ten_to_minus round
returns-else-magnitude c = rw (← c.magnitude.ensures, c.if-magnitude.false)
