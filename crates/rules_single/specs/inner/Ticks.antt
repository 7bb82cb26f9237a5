-- The one-average rule on whole ticks, decided by whole numbers, which running sums give exactly. Assumes nothing.
use Rattle.std.specs.Prelude.{◌≡◌, true, List, ℕ, ◌+◌, ◌*◌, ◌≤◌, length, Float}
use Rattle.limits.specs.Limits.{Window}
use Rattle.values.specs.Accepted.{tick, all}
use Rattle.cells.specs.Line.{line}
use Rattle.cells.specs.inner.Rows.{beside}
use Rattle.cells.specs.Written.{Writing}
use Rattle.windows.specs.Window.{mean}
use Rattle.windows.specs.inner.RunningSums.{running_sums}

-- the means of s, and the sums of its last n window sums, in two rows
abbrev pub Totals : ℕ → List Float → List Float → List Float → Type 0
Totals n s old now =
    Writing (length s + length s) (beside (length s) (mean n (line s)) (running_sums n (running_sums n (line s)))) old
    now

-- whole ticks, a window, and those rows in `now`
pub record TickRows (n : ℕ) (s now : List Float) : Type 0 where
  pub window : Window n
  pub ticks : all tick s ≡ true
  pub room : 2 * length s ≤ length now
  pub rows : Totals n s now now
