-- Which numbers are periods of the smoother. Assumes nothing.
use Rattle.std.specs.Prelude.{ℕ, Bool, ◌&&◌, pos, Float}
use Rattle.std.specs.Float.{binary64}
use Rattle.std.specs.Float.Ieee.{eq, le, of_int, to_unsigned}
use Rattle.cells.specs.Line.{plus_zero}
use Rattle.smoother_table.specs.Coefficients.{power}

-- the whole part of a number that is not below 0
abbrev pub whole_part : Float → ℕ
whole_part = to_unsigned 64

-- A whole number from 0 to 512; -0.0 is the whole number 0.
unfoldable pub is_period : Float → Bool
is_period x = le plus_zero x && le x (power 9) && eq (of_int binary64 (pos (whole_part x))) x
