-- `write_lead` meets its contract: both rows begin with cells that are cleared. Assumes nothing.
use native.Mathlib.Omega.{arith}
use Rattle.extremes.proofs.Range.{not_whole}
use Rattle.extremes.proofs.Lead.{both_begun}
use Rattle.extremes.proofs.ranges.write_lead.Goals as goal

pub returns : goal.returns
returns c = both_begun c.clear.ensures c.clear-2.ensures (omega arith) (λ i h. not_whole c.args.n _ i (omega arith))
