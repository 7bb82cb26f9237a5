-- Sums of whole ticks, as the loops of `tick_mean` make them: one tick in, one out, and an i64 holds them. Assumes
-- nothing.
use Rattle.std.specs.Prelude.{◌≡◌, true, List, ℕ, ◌-◌, ◌≤◌, ℤ, pos, length, Float}
use Rattle.values.specs.Accepted.{tick, all}
use Rattle.cells.specs.Line.{line}
use Rattle.cells.specs.Written.{Writing}
use Rattle.averages_ticks.specs.TickMean.{tick_sum, tick_mean_line}
use Rattle.limits.specs.Limits.{longest_window, Window}

-- a series of whole ticks
pub record Ticks (s : List Float) : Type 0 where
  pub each : all tick s ≡ true

-- z is the sum of the k ticks from bar a on: what the loops keep
pub record TickSum (s : List Float) (a k : ℕ) (z : ℤ) : Type 0 where
  pub is : z ≡ tick_sum (line s) a k

-- ---- what the functions under `tick_mean` ask and give

-- a series of ticks, a window, and a cell for each bar
pub record TickRoom (s : List Float) (n cells : ℕ) : Type 0 where
  pub window : Window n
  pub room : length s ≤ cells
  pub ticks : Ticks s

-- the first bars of such a series
pub record LeadRoom (s : List Float) (first cells : ℕ) : Type 0 where
  pub short : first ≤ longest_window
  pub inside : first ≤ length s
  pub room : length s ≤ cells
  pub ticks : Ticks s

-- their sum, and a 0 for each
pub record Summed (s : List Float) (first : ℕ) (z : ℤ) (old now : List ℤ) : Type 0 where
  pub sum : TickSum s 0 first z
  pub lead : Writing first (λ i. pos 0) old now

-- the cells before bar n - 1 stand in `now`, which has room for the rest, and z is the sum of those bars
pub record TickSliding (s : List Float) (n : ℕ) (z : ℤ) (now : List ℤ) : Type 0 where
  pub window : Window n
  pub inside : n ≤ length s
  pub room : length s ≤ length now
  pub ticks : Ticks s
  pub sum : TickSum s 0 (n - 1) z
  pub cells : Writing (n - 1) (tick_mean_line n (line s)) now now
