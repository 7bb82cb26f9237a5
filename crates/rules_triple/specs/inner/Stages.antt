-- What the stages of the triple rule ask of each other. Assumes nothing.
use Rattle.std.specs.Prelude.{List, ℕ, ◌+◌, ◌-◌, ◌*◌, ◌<◌, ◌≤◌, length, Float}
use Rattle.limits.specs.Limits.{Window}
use Rattle.cells.specs.Line.{line}
use Rattle.windows.specs.Window.{mean}
use Rattle.window_means.specs.inner.Row.{RowHolds}

-- three windows that rise
pub record Rising (m1 m2 m3 : ℕ) : Type 0 where
  pub first : Window m1
  pub second : Window m2
  pub third : Window m3
  pub short : m1 < m2
  pub long : m2 < m3

-- four rows: the means, and of them the means over m1, m2 and m3 from bar m1 + m3 - 2 on
pub record Averages (m1 m2 m3 : ℕ) (s now : List Float) : Type 0 where
  pub room : 4 * length s ≤ length now
  pub means : RowHolds 0 0 (length s) (mean m1 (line s)) now
  pub ma1 : RowHolds (length s) (m1 + m3 - 2) (length s) (mean m1 (mean m1 (line s))) now
  pub ma2 : RowHolds (2 * length s) (m1 + m3 - 2) (length s) (mean m2 (mean m1 (line s))) now
  pub ma3 : RowHolds (3 * length s) (m1 + m3 - 2) (length s) (mean m3 (mean m1 (line s))) now
