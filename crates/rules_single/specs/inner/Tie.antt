-- Where whole numbers do not decide the one-average rule. Assumes nothing.
use Rattle.std.specs.Prelude.{Bool, ◌||◌, Float}
use Rattle.std.specs.Float.Ieee.{eq}
use Rattle.cells.specs.Line.{plus_zero}

-- n · n · price is the sum of the last n window sums, or that sum is 0: there the rounded average decides
abbrev pub tie : Float → Float → Bool
tie scaled total = eq scaled total || eq total plus_zero
