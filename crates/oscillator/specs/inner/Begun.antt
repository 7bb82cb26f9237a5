-- What the functions that write the oscillator's cells ask: two rows, and the cells before a bar. Assumes nothing.
use Rattle.std.specs.Prelude.{◌≡◌, List, ℕ, ◌-◌, ◌≤◌, max, min, length, Float}
use Rattle.limits.specs.Limits.{Window}
use Rattle.cells.specs.Line.{Line, line, minus_zero}
use Rattle.cells.specs.Written.{Writing}
use Rattle.oscillator.specs.declared.periods.Periods.{Periods}
use Rattle.oscillator.specs.Oscillator.{weighed_shares}

-- the longest of three windows
abbrev pub longest : Periods → ℕ
longest p = max p.short (max p.medium p.long)

-- three windows
pub record Windowed (p : Periods) : Type 0 where
  pub short_window : Window p.short
  pub medium_window : Window p.medium
  pub long_window : Window p.long

-- three windows over two rows of one length
pub record Windows₃ (p : Periods) (pressures ranges : List Float) : Type 0 where
  pub each : Windowed p
  pub same : length ranges ≡ length pressures

-- the cells, with windows summed from -0.0
abbrev pub afresh : Periods → List Float → List Float → Line
afresh p pressures ranges = weighed_shares minus_zero p.short p.medium p.long (line pressures) (line ranges)

-- the cells before bar `from`, which is past the lead, stand in `now`, which has room for the rest
pub record Begun (p : Periods) (pressures ranges : List Float) (from : ℕ) (now : List Float) : Type 0 where
  pub windows : Windows₃ p pressures ranges
  pub past_lead : min (longest p - 1) (length pressures) ≤ from
  pub inside : from ≤ length pressures
  pub room : length pressures ≤ length now
  pub cells : Writing from (afresh p pressures ranges) now now
