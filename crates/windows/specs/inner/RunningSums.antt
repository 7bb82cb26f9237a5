-- Running sums of every bar's window. Assumes nothing.
use Rattle.std.specs.Prelude.{List, ℕ, ◌+◌, ◌-◌, ◌≤◌, length, Float}
use Rattle.cells.specs.Line.{Line, line, plus_zero, from_bar}
use Rattle.cells.specs.Written.{Writing}
use Rattle.windows.specs.Window.{add_difference, running_sum}
use Rattle.limits.specs.Limits.{Window}

-- ---- running sums

-- the running sum of the last n cells, and 0.0 before bar n - 1
unfoldable pub running_sums : ℕ → Line → Line
running_sums n f = from_bar (n - 1) plus_zero (λ i. running_sum add_difference n f (i + 1 - n))

-- a window that is full at bar n - 1, and the cells before it
pub record Opening (n : ℕ) (s now : List Float) : Type 0 where
  pub window : Window n
  pub full : n ≤ length s
  pub room : length s ≤ length now
  pub before : Writing (n - 1) (running_sums n (line s)) now now
