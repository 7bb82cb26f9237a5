-- What the functions that sum windows afresh ask and promise. Assumes nothing.
use Rattle.std.specs.Prelude.{ℕ, ◌+◌, ◌≤◌}
use Rattle.limits.specs.Limits.{Window}

-- a whole window of n bars ends at each of `count` bars from i on
pub record Windows (n i count bars : ℕ) : Type 0 where
  pub window : Window n
  pub full : n ≤ i + 1
  pub inside : i + count ≤ bars

-- a window that is not empty, and a cell for each bar
pub record WindowRoom (n bars cells : ℕ) : Type 0 where
  pub window : Window n
  pub room : bars ≤ cells
