-- `all_accepted` meets its contract: from index 0 on there are all numbers. Assumes nothing.
use Rattle.std.proofs.Common.{arith}
use Rattle.values.proofs.Part.{all_passing}
use Rattle.values.proofs.series.all_accepted.Goals as goal

pub returns : goal.returns
returns c = all_passing c.args.s.now c.accepted_from.ensures (omega arith)
