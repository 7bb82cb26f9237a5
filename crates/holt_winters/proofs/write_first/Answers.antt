-- `write_first` meets its contract: each turn copies a price and keeps its seasonal part. Assumes nothing.
use native.Mathlib.Omega.{arith}
use Rattle.holt_winters.proofs.Stages.{one_first}
use Rattle.holt_winters.proofs.write_first.Goals as goal

pub loop-i-preserved : goal.loop-i-preserved
loop-i-preserved c = one_first c.loop-i.invariant c.put.ensures (omega arith)
