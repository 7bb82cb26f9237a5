-- `price_change_at` meets its contract: the size of the change. Assumes nothing.
use native.Mathlib.Omega.{arith}
use Rattle.jurik.proofs.Stages.{price_change_is}
use Rattle.jurik.proofs.price_change_at.Goals as goal

pub returns : goal.returns
returns c = price_change_is _ _ c.change_at.ensures c.magnitude.ensures (omega arith)
