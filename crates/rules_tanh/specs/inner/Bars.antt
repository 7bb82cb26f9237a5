-- What is asked where the cells of a few bars are written. Assumes nothing.
use Rattle.std.specs.Prelude.{◌≡◌, List, ℕ, ◌+◌, ◌*◌, ◌<◌, ◌≤◌, length, Float}
use Rattle.limits.specs.Limits.{Window}
use Rattle.cells.specs.Line.{line}
use Rattle.cells.specs.Written.{Writing}
use Rattle.rules_tanh.specs.Tanh.{thresholds, tanh_of_means}

-- `table` has the thresholds, cells are due from bar i on, which is inside, those before it stand in `now`, and there
-- is room for the rest
pub record BarsBefore (n : ℕ) (means table : List Float) (i : ℕ) (now : List Float) : Type 0 where
  pub window : Window n
  pub recorded : table ≡ thresholds
  pub full : 2 * n ≤ i + 2
  pub inside : i < length means
  pub room : length means ≤ length now
  pub cells : Writing i (tanh_of_means n (line means)) now now
