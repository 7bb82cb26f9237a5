-- `running_sum` meets its contract: it begins with a window summed afresh, and each turn slides it. Assumes nothing.
use native.Mathlib.Omega.{arith}
use Rattle.windows.proofs.Window.{first_running, next_running}
use Rattle.rules_double.proofs.running_sum.Goals as goal

pub loop-j-init : goal.loop-j-init
loop-j-init c = first_running _ c.sum_at-sum.ensures (omega arith)

pub loop-j-preserved : goal.loop-j-preserved
loop-j-preserved c = rw c.slide_sum-sum.ensures (next_running c.loop-j.invariant (omega arith))
