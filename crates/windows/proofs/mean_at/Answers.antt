-- `mean_at` meets its contract. Assumes nothing.
use native.Mathlib.Omega.{arith}
use Rattle.windows.proofs.Window.{mean_of}
use Rattle.windows.proofs.mean_at.Goals as goal

pub returns : goal.returns
returns c = mean_of _ _ _ c.sum_at.ensures (omega arith)
