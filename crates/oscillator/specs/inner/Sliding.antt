-- What the functions that slide sums of whole ticks ask of each other. Assumes nothing.
use Rattle.std.specs.Prelude.{◌≡◌, true, List, ℕ, ◌<◌, ◌≤◌, length, Float}
use Rattle.limits.specs.Limits.{Window}
use Rattle.values.specs.Accepted.{tick, all}
use Rattle.cells.specs.Line.{Line}
use Rattle.windows.specs.Window.{window_sum}
use Rattle.oscillator.specs.declared.bar.Sums.{Sums}

-- the sums of the last n cells of pressures and of ranges at bar i
pub record SumsOf (n : ℕ) (pressures ranges : Line) (i : ℕ) (r : Sums) : Type 0 where
  pub over : r.over ≡ window_sum n pressures i
  pub under : r.under ≡ window_sum n ranges i

-- two rows of whole ticks, and a whole window at bar i and at the bar before
pub record TickRows (n : ℕ) (pressures ranges : List Float) (i : ℕ) : Type 0 where
  pub window : Window n
  pub full : n ≤ i
  pub inside : i < length pressures
  pub same : length ranges ≡ length pressures
  pub ticks : (all tick pressures ≡ true) × (all tick ranges ≡ true)
