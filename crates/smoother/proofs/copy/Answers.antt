-- `copy` meets its contract: the loop copies cell after cell. Assumes nothing.
use Rattle.std.proofs.Common.{refl, arith}
use Rattle.cells.proofs.Written.{none_written, one_more, ends}
use Rattle.smoother.proofs.copy.Goals as goal

pub loop-i-init : goal.loop-i-init
loop-i-init c = none_written

pub loop-i-preserved : goal.loop-i-preserved
loop-i-preserved c = one_more c.loop-i.invariant refl (omega arith)

pub returns : goal.returns
returns c = ends c.loop-i.invariant (omega arith)
