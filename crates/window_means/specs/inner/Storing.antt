-- How the means of bars side by side are written. Assumes nothing.
use Rattle.std.specs.Prelude.{List, [], ◌∷◌, ℕ, ◌+◌, ◌-◌, ◌<◌, ◌≤◌, min, length, set, Float}
use Rattle.cells.specs.Line.{line}
use Rattle.cells.specs.Written.{Writing}
use Rattle.windows.specs.Window.{mean}
use Rattle.limits.specs.Limits.{Window}

-- the lanes, stored one after another from cell i on
abbrev pub stored : List Float → ℕ → List Float → List Float
stored cells i [] = cells
stored cells i (x ∷ lanes) = stored (set cells i x) (i + 1) lanes

-- the means before bar `from`, which is past the lead, stand in `now`, which has room for the rest
pub record MeansBefore (s : List Float) (n from : ℕ) (now : List Float) : Type 0 where
  pub window : Window n
  pub past_lead : min (n - 1) (length s) ≤ from
  pub inside : from ≤ length s
  pub room : length s ≤ length now
  pub means : Writing from (mean n (line s)) now now

-- they were written on, up to bar r, where fewer than N bars are left
pub record MeansUpTo (N : ℕ) (s : List Float) (n from r : ℕ) (old now : List Float) : Type 0 where
  pub on : from ≤ r
  pub inside : r ≤ length s
  pub few : length s < r + N
  pub means : Writing r (mean n (line s)) old now
