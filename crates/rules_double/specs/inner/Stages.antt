-- How the stages of a rule fit together: what they ask of each other, and a cell from what the stages before it
-- wrote. Assumes nothing.
use Rattle.std.specs.Prelude.{List, ℕ, ◌-◌, ◌<◌, ◌≤◌, length, Float}
use Rattle.std.specs.Float.{binary64}
use Rattle.std.specs.Float.Ieee.{sub}
use Rattle.cells.specs.Line.{line}
use Rattle.cells.specs.Written.{Writing}
use Rattle.rounding.specs.Leaves.{sign_of}
use Rattle.windows.specs.Window.{over}
use Rattle.rules_double.specs.Double.{double_line}
use Rattle.limits.specs.Limits.{Window}

-- ---- two averages

-- the sign of the short average less the long one, from the two running sums
abbrev pub crossing : ℕ → ℕ → Float → Float → Float
crossing n m short long = sign_of (sub binary64 (over n short) (over m long))

-- two windows that are in order and full at bar m - 1, and the cells before it
pub record Started (n m : ℕ) (s now : List Float) : Type 0 where
  pub short : Window n
  pub long : Window m
  pub order : n < m
  pub full : m ≤ length s
  pub room : length s ≤ length now
  pub before : Writing (m - 1) (double_line n m (line s)) now now
