-- `change_at` meets its contract: the same difference. Assumes nothing.
use native.Mathlib.Omega.{arith}
use Rattle.changes.proofs.Bars.{change_is}
use Rattle.changes.proofs.change_at.Goals as goal

pub returns : goal.returns
returns c = change_is _ _ _ (omega arith)
