-- What the functions under `ultimate_oscillator` ask of each other. Assumes nothing.
use Rattle.std.specs.Prelude.{◌≡◌, true, List, ℕ, ◌+◌, ◌*◌, ◌≤◌, max, length, Float, Option, ◌<◌}
use Rattle.limits.specs.Limits.{Window}
use Rattle.checks.specs.inner.Three.{ValuesOfThree}
use Rattle.cells.specs.Written.{Writing}
use Rattle.true_range.specs.TrueRange.{accepted_close}
use Rattle.oscillator.specs.declared.periods.Periods.{Periods}
use Rattle.oscillator.specs.inner.Begun.{longest, Windowed, Windows₃, afresh}

-- three series of one length with accepted values, an accepted close before bar 0, three windows, a cell for each bar,
-- and eight rows of work cells
pub record Ready (high low close : List Float) (first : Option Float) (short medium long out work : ℕ) : Type 0 where
  pub lows : length low ≡ length high
  pub closes : length close ≡ length high
  pub values : ValuesOfThree high low close
  pub first_close : accepted_close first ≡ true
  pub short_window : Window short
  pub medium_window : Window medium
  pub long_window : Window long
  pub out_long : length high ≤ out
  pub work_long : 8 * length high ≤ work

-- all of them are whole at each of `count` bars from i on
pub record Whole₃ (p : Periods) (pressures ranges : List Float) (i count : ℕ) : Type 0 where
  pub windows : Windows₃ p pressures ranges
  pub full : longest p ≤ i + 1
  pub inside : i + count ≤ length pressures

-- three windows over two rows that stand one after the other, and a cell for each bar
pub record TwoRows (p : Periods) (bars rows out : ℕ) : Type 0 where
  pub each : Windowed p
  pub inside : 2 * bars ≤ rows
  pub room : bars ≤ out

-- they were written on, up to bar r, where fewer than N bars are left
pub record Reached (N : ℕ) (p : Periods) (pressures ranges : List Float) (from r : ℕ) (old now : List Float)
    : Type 0 where
  pub on : from ≤ r
  pub inside : r ≤ length pressures
  pub few : length pressures < r + N
  pub cells : Writing r (afresh p pressures ranges) old now
