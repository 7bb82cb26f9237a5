-- The highest and the lowest of neighbouring cells together: what holds of the best of either kind holds of both.
-- Assumes nothing.
use Rattle.std.specs.Prelude.{true, false, ℕ, Float}
use Rattle.cells.specs.Line.{Line}
use Rattle.extremes.specs.declared.blocks.HighLow.{HighLow}
use Rattle.extremes.specs.Extreme.{larger, smaller}
use Rattle.extremes.specs.inner.Best.{Best}

-- the range of one cell
abbrev pub alone : Float → HighLow
alone x = record { high = x; low = x }

-- the range of the cells of x and those of y, which stand right of them
abbrev pub joined : HighLow → HighLow → HighLow
joined x y = record { high = larger x.high y.high; low = smaller x.low y.low }

-- r is the range of the cells of bars a to e
pub record RangeOf (f : Line) (a e : ℕ) (r : HighLow) : Type 0 where
  pub highest : Best true f a e r.high
  pub lowest : Best false f a e r.low
