-- Series of whole ticks. Assumes nothing.
use Rattle.std.specs.Prelude.{◌≡◌, true, List, ℕ, ℤ, Float}
use Rattle.std.specs.Float.{binary64}
use Rattle.std.specs.Float.Ieee.{to_signed, fits}
use Rattle.values.specs.Accepted.{tick, all}
use Rattle.cells.specs.Line.{line}

-- each is an f64, and a whole tick: a whole number from -16,777,216 to 16,777,216, and not -0.0
pub record WholeTicks (s : List Float) : Type 0 where
  pub floats : all (fits binary64) s ≡ true
  pub ticks : all tick s ≡ true

-- the price at bar i, as a whole number
abbrev pub price : List Float → ℕ → ℤ
price s i = to_signed 63 (line s i)
