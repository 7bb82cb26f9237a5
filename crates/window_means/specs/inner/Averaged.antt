-- A line of averages that stands in a slice. Assumes nothing.
use Rattle.std.specs.Prelude.{List, ℕ, ◌≤◌, length, Float}
use Rattle.cells.specs.Line.{Line}
use Rattle.cells.specs.Written.{Writing}
use Rattle.limits.specs.Limits.{Window}

-- the cells of the line f, made of the means of s, stand in `now`, each to be turned into its bar's position
pub record Averaged (n : ℕ) (s : List Float) (f : Line) (now : List Float) : Type 0 where
  pub window : Window n
  pub room : length s ≤ length now
  pub means : Writing (length s) f now now
