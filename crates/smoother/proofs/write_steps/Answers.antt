-- `write_steps` meets its contract: each turn reads the last two cells back, and writes the next. Assumes nothing.
use Rattle.std.proofs.Common.{◌-◌, arith}
use lib.Ieee.{nan}
use Rattle.cells.proofs.Written.{one_more, read_back}
use Rattle.smoother.proofs.Smoother.{smooth_next}
use Rattle.smoother.proofs.write_steps.Goals as goal

pub loop-i-preserved : goal.loop-i-preserved
loop-i-preserved c =
    let at = c.loop-i in
    let last = read_back (at.i - 1) nan at.invariant (omega arith) in
    let before_last = read_back (at.i - 2) nan at.invariant (omega arith) in
    one_more at.invariant (rw (c.step.ensures, last, before_last) (smooth_next _ _ at.i (omega arith))) (omega arith)
