-- `scaled` meets its contract: it takes the bits of a number, and the field that it gives them is 1022 or 1023. Assumes
-- nothing.
use lib.Ieee.{of_bits, is_nan}
use Rattle.rounding_root.proofs.Above.{above_is_number}
use Rattle.rounding_root.proofs.scaled.Goals as goal
use Rattle.rounding_root.proofs.scaled.Goals.{then-x, else-x}

-- a number above zero is no NaN, and neither is 1
pub float_to_bits-bits : goal.float_to_bits-bits
unfolding of_bits is_nan
float_to_bits-bits c = elim c.if-x.branch
    [ then-x w ↦ rw w.some-is (above_is_number c.args.x w.if-x.true) | else-x w ↦ rw w.some-is tt ]
