-- What the functions under `ultimate_channel` ask of each other. Assumes nothing.
use Rattle.std.specs.Prelude.{◌≡◌, true, List, ℕ, ◌<◌, ◌≤◌, length, Float, Option}
use Rattle.limits.specs.Limits.{longest_period}
use Rattle.checks.specs.inner.Three.{ValuesOfThree}
use Rattle.true_range.specs.TrueRange.{accepted_close}

-- a smoother period of at least 1, three series of one length with accepted values, an accepted close before bar 0, and
-- outputs that have room
pub record ChannelRoom (n : ℕ) (first : Option Float) (high low close : List Float) (out : ℕ) : Type 0 where
  pub some : 0 < n
  pub narrow : n ≤ longest_period
  pub values : ValuesOfThree high low close
  pub first_close : accepted_close first ≡ true
  pub second : length low ≡ length high
  pub third : length close ≡ length high
  pub out_long : length high ≤ out
