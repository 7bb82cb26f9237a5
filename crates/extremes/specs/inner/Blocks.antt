-- What the functions under `write_ranges` ask of each other. Assumes nothing.
use Rattle.std.specs.Prelude.{List, ℕ, ◌+◌, ◌-◌, ◌≤◌, min, length, Float}
use Rattle.cells.specs.Line.{line}
use Rattle.extremes.specs.inner.Best.{Numbers}
use Rattle.extremes.specs.inner.Part.{Replacing}
use Rattle.extremes.specs.inner.Windows.{Whole}
use Rattle.limits.specs.Limits.{longest_series, Window}

-- a window, at most as many numbers as a series has, and two cells for each
pub record Room (s : List Float) (n cells : ℕ) : Type 0 where
  pub window : Window n
  pub short : length s ≤ longest_series
  pub room : length s + length s ≤ cells
  pub numbers : Numbers (line s) (length s)

-- the cells before the first whole window stand in `now`
pub record LeadWritten (s : List Float) (n : ℕ) (now : List Float) : Type 0 where
  pub given : Room s n (length now)
  pub lead : Replacing (length s) 0 (min (n - 1) (length s)) (Whole s n) now now
