-- The ranges of windows, and windows that all reach over one bar. Assumes nothing.
use Rattle.std.specs.Prelude.{◌≡◌, List, ℕ, ◌+◌, ◌-◌, ◌<◌, ◌≤◌, length, Float}
use Rattle.cells.specs.Line.{line}
use Rattle.extremes.specs.declared.blocks.HighLow.{HighLow}
use Rattle.extremes.specs.Extreme.{larger, smaller, extreme}
use Rattle.extremes.specs.inner.Best.{Numbers}
use Rattle.extremes.specs.inner.Range.{RangeOf}

-- x is the range of the window that ends at bar i, up to bar e
abbrev pub UpTo : List Float → ℕ → ℕ → ℕ → HighLow → Type 0
UpTo s n e i x = RangeOf (line s) (i + 1 - n) e x

-- x is the range of the window that ends at bar i
abbrev pub Whole : List Float → ℕ → ℕ → HighLow → Type 0
Whole s n i x = (x.high ≡ extreme larger n (line s) i) × (x.low ≡ extreme smaller n (line s) i)

-- the windows of n bars that end at bars e to `last` of s all reach over bar e, and rows of `room` cells in all hold
-- two cells for each
pub record WindowsOver (s : List Float) (n e last room : ℕ) : Type 0 where
  pub full : n ≤ e + 1
  pub order : e ≤ last
  pub reach : last < e + n
  pub inside : last < length s
  pub room_enough : length s + length s ≤ room
  pub numbers : Numbers (line s) (length s)
