-- `write_rolling_rank` meets its contract: places, or 0 at every bar for a window of none. Assumes nothing.
use native.Mathlib.Omega.{arith}
use Rattle.rules_rank.proofs.RollingCells.{no_window_lem}
use Rattle.rules_rank.proofs.rolling.write_rolling_rank.Goals as goal

pub returns-else-window-gt0 : goal.returns-else-window-gt0
returns-else-window-gt0 c = no_window_lem _ _ c.fill.ensures (omega arith)
