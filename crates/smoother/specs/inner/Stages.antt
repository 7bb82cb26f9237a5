-- What the functions under `ultimate_smoother` ask of each other. Assumes nothing.
use Rattle.std.specs.Prelude.{◌≤◌, List, length, Float}
use Rattle.cells.specs.Line.{line}
use Rattle.cells.specs.Written.{Writing}
use Rattle.smoother_table.specs.declared.Coefficients.{Coefficients}
use Rattle.smoother.specs.Smoother.{smooth}

-- ---- what the functions under `ultimate_smoother` ask of each other

-- the smoother's line of s is written
abbrev pub Smoothed : Coefficients → List Float → List Float → List Float → Type 0
Smoothed c s old now = Writing (length s) (smooth c (line s)) old now

-- the first four cells stand in `now`, which has room for the rest
pub record FirstFour (c : Coefficients) (s now : List Float) : Type 0 where
  pub some : 4 ≤ length s
  pub room : length s ≤ length now
  pub first : Writing 4 (smooth c (line s)) now now
