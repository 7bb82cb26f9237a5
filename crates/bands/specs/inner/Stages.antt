-- What the functions under `ultimate_bands` ask of each other. Assumes nothing.
use Rattle.std.specs.Prelude.{true, ◌≡◌, List, ℕ, ◌≤◌, length, Float}
use Rattle.limits.specs.Limits.{longest_period}
use Rattle.values.specs.Accepted.{accepted, all}

-- what the stages ask: both periods, accepted closes, and a cell for each in each output
pub record BandsRoom (n m : ℕ) (s : List Float) (middle upper lower : ℕ) : Type 0 where
  pub period : n ≤ longest_period
  pub smooth_period : m ≤ longest_period
  pub values : all accepted s ≡ true
  pub middle_long : length s ≤ middle
  pub upper_long : length s ≤ upper
  pub lower_long : length s ≤ lower
