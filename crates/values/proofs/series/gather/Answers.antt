-- `gather` meets its contract: each turn adds one number's bits and its test. Assumes nothing.
use Rattle.std.proofs.Common.{◌≡◌, length, arith}
use Rattle.values.proofs.Part.{none_passing, one_passing, all_passing}
use Rattle.values.proofs.Quick.{capped_number, more_bits, no_bits}
use Rattle.values.proofs.series.gather.Goals as goal

pub loop-x-init : goal.loop-x-init
loop-x-init c = (no_bits (omega arith), none_passing)

pub float_to_bits-bits : goal.float_to_bits-bits
float_to_bits-bits c = rw c.cap.ensures (capped_number _)

pub loop-x-preserved : goal.loop-x-preserved
loop-x-preserved c =
    let at = c.loop-x in (
      more_bits _ _ at.invariant.0 c.cap.ensures (omega arith),
      one_passing _ at.invariant.1 c.is_whole-whole.ensures (omega arith),
    )

pub returns : goal.returns
returns c =
    let at = c.loop-x in
    let s = c.args.s.now in
    let whole : at.x-index ≡ length s = omega arith in (
      rw (← whole) at.invariant.0,
      all_passing s at.invariant.1 (omega arith),
    )
