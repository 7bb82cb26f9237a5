-- A window that fits a call's series. Assumes nothing.
use Rattle.std.specs.Prelude.{Bool, ◌&&◌, ℕ, ◌≤◌, leb, ltb}
use Rattle.limits.specs.Limits.{longest_series, longest_window, Window}

-- a whole window of n bars, and lengths that are in order: only the values are left to be refused
unfoldable pub window_fits : ℕ → ℕ → ℕ → Bool
window_fits bars n output = ltb 0 n && leb n longest_window && leb n bars && leb bars longest_series && leb bars output

-- what that says
pub record Fits (bars n out : ℕ) : Type 0 where
  pub window : Window n
  pub inside : n ≤ bars
  pub short : bars ≤ longest_series
  pub room : bars ≤ out
