-- What the functions that write the deviations of the bands ask of each other. Assumes nothing.
use Rattle.std.specs.Prelude.{true, ◌≡◌, List, ℕ, ◌+◌, ◌-◌, ◌<◌, ◌≤◌, length, Float}
use Rattle.limits.specs.Limits.{longest_period}
use Rattle.values.specs.Accepted.{accepted, all}
use Rattle.cells.specs.Line.{line, plus_zero}
use Rattle.cells.specs.Written.{Writing}
use Rattle.cells.specs.inner.MoreWritten.{MoreWritten}
use Rattle.deviations.specs.Deviation.{deviation}

-- a period, accepted closes, and a cell for each
pub record Spreading (n : ℕ) (s : List Float) (out : ℕ) : Type 0 where
  pub period : n ≤ longest_period
  pub values : all accepted s ≡ true
  pub room : length s ≤ out

-- a whole window ends at bar i, and the deviations before it stand in `now`
pub record DeviationsBefore (n : ℕ) (s : List Float) (i : ℕ) (now : List Float) : Type 0 where
  pub asked : Spreading n s (length now)
  pub some : 1 < n
  pub full : n ≤ i + 1
  pub inside : i < length s
  pub cells : Writing i (deviation plus_zero (n - 1) n (line s)) now now

-- r more were written
abbrev pub MoreDeviations : ℕ → List Float → ℕ → ℕ → List Float → List Float → Type 0
MoreDeviations n s = MoreWritten (deviation plus_zero (n - 1) n (line s)) (length s)
