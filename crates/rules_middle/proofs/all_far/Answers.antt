-- `all_far` meets its contract: each turn looks at one more bar. Assumes nothing.
use native.Mathlib.Omega.{arith}
use Rattle.margins.proofs.Far.{none_looked_at, one_more_far, all_looked_at}
use Rattle.rules_middle.proofs.all_far.Goals as goal

pub loop-i-init : goal.loop-i-init
loop-i-init c = (omega arith, none_looked_at (omega arith))

pub loop-i-preserved : goal.loop-i-preserved
loop-i-preserved c = (omega arith, one_more_far c.loop-i.invariant.1 (omega arith) c.is_far-far.ensures)

pub returns : goal.returns
returns c = all_looked_at c.loop-i.invariant.1 (omega arith) (omega arith)
