-- When running sums decide a bar: price and average are far enough apart. Assumes nothing.
use Rattle.std.specs.Prelude.{Bool, cond, List, length, Float}
use Rattle.std.specs.Float.{binary64}
use Rattle.std.specs.Float.Ieee.{sub, lt}
use Rattle.rounding.specs.Leaves.{minus_one, magnitude_of}
use Rattle.cells.specs.Line.{line}
use Rattle.margins.specs.inner.Margin.{largest_of, margin_of}

-- how far price and average by running sums have to be apart: the margin, and on whole ticks any distance will do
abbrev pub distance_of : Bool → List Float → Float
distance_of ticks s = cond ticks minus_one (margin_of (largest_of (line s) (length s)))

-- they are
abbrev pub decided : Float → Float → Float → Bool
decided d price average = lt d (magnitude_of (sub binary64 price average))
