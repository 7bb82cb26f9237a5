-- The deviation of the last n cells about their mean, and bands beside a middle. Every operation is rounded once.
-- Assumes nothing.
use Rattle.std.specs.Prelude.{ℕ, ◌+◌, ◌-◌, Float}
use Rattle.std.specs.Float.{nan, binary64}
use Rattle.std.specs.Float.Ieee.{add, sub, mul}
use Rattle.rounding_root.specs.Root.{sqrt_of}
use Rattle.cells.specs.Line.{Line, from_bar}
use Rattle.windows.specs.Window.{sum_from, over}

-- one product
abbrev pub square : Float → Float
square x = mul binary64 x x

-- the squares of the last n cells' distances from m, summed from z
abbrev pub squares_about : Float → ℕ → Float → Line → Line
squares_about z n m f i = sum_from z (λ j. square (sub binary64 (f j) m)) (i + 1 - n) n

-- the squares about the last n cells' own mean, over d; both sums run from z
abbrev pub variance : Float → ℕ → ℕ → Line → Line
variance z d n f i = over d (squares_about z n (over n (sum_from z f (i + 1 - n) n)) f i)

-- the root of that; NaN before bar n - 1
unfoldable pub deviation : Float → ℕ → ℕ → Line → Line
deviation z d n f = from_bar (n - 1) nan (λ i. sqrt_of binary64 (variance z d n f i))

-- k widths above a middle, and k below it
abbrev pub upper_band : Float → Float → Float → Float
upper_band k middle width = add binary64 middle (mul binary64 k width)

abbrev pub lower_band : Float → Float → Float → Float
lower_band k middle width = sub binary64 middle (mul binary64 k width)
