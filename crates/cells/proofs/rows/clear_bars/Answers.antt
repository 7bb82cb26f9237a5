-- `clear_bars` meets its contract: the bars' cells before the last row, and then those in it. Assumes nothing.
use native.Mathlib.Omega.{arith}
use Rattle.cells.proofs.Scratch.{bars_cleared}
use Rattle.cells.proofs.rows.clear_bars.Goals as goal

pub returns : goal.returns
returns c = bars_cleared c.clear.ensures c.clear-2.ensures (omega arith)
