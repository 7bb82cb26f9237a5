-- What the stages of `rank_positions` ask of each other. Assumes nothing.
use Rattle.std.specs.Prelude.{List, ℕ, ◌+◌, ◌-◌, ◌*◌, ◌<◌, ◌≤◌, length, Float}
use Rattle.limits.specs.Limits.{Window}
use Rattle.cells.specs.Line.{line}
use Rattle.cells.specs.Written.{Writing}
use Rattle.cells.specs.inner.Rows.{beside}
use Rattle.windows.specs.Window.{mean}
use Rattle.rules_rank.specs.Rank.{rank_of}

-- the means of s in one row, and beside it the position for each count of means below
pub record RankRows (n : ℕ) (s now : List Float) : Type 0 where
  pub window : Window n
  pub due : 2 * n - 2 < length s
  pub room : 2 * length s ≤ length now
  pub rows : Writing (length s + n) (beside (length s) (mean n (line s)) (λ c. rank_of c (n - 1))) now now
