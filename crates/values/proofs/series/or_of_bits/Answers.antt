-- `or_of_bits` meets its contract: each turn adds one number's bits. Assumes nothing.
use Rattle.std.proofs.Common.{arith}
use Rattle.values.proofs.Quick.{capped_number, more_bits, no_bits}
use Rattle.values.proofs.series.or_of_bits.Goals as goal

pub loop-i-init : goal.loop-i-init
loop-i-init c = (omega arith, no_bits (omega arith))

pub float_to_bits-together : goal.float_to_bits-together
float_to_bits-together c = rw c.cap.ensures (capped_number _)

pub loop-i-preserved : goal.loop-i-preserved
loop-i-preserved c = (omega arith, more_bits _ _ c.loop-i.invariant.1 c.cap.ensures (omega arith))
