-- How many of neighbouring cells pass a test. Assumes nothing.
use Rattle.std.specs.Prelude.{Bool, cond, ℕ, zero, suc, ◌+◌, Float}
use Rattle.std.specs.Float.{binary64}
use Rattle.std.specs.Float.Ieee.{sub, lt, le}
use Rattle.cells.specs.Line.{Line}

-- x lies below the value
abbrev pub below : Float → Float → Bool
below value x = lt x value

-- x lies below the value by the distance or more, as the rounded difference says
abbrev pub below_by : Float → Float → Float → Bool
below_by distance value x = le distance (sub binary64 value x)

-- how many of the cells f a, f (a + 1), .., f (a + k - 1) pass
unfoldable pub count_from : (Float → Bool) → Line → ℕ → ℕ → ℕ
count_from test f a zero = 0
count_from test f a (suc k) = let before = count_from test f a k in cond (test (f (a + k))) (suc before) before
