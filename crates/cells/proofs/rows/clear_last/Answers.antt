-- `clear_last` meets its contract: the part from the last row on is cleared. Assumes nothing.
use native.Mathlib.Omega.{arith}
use Rattle.cells.proofs.Scratch.{last_cleared}
use Rattle.cells.proofs.rows.clear_last.Goals as goal

pub returns : goal.returns
returns c = last_cleared c.requires.1 c.clear.ensures (omega arith)
