-- A position of a rule, +1.0, -1.0 or 0.0, in other words: which side of 0 it is on, and its whole number. Assumes
-- nothing.
use Rattle.std.specs.Prelude.{cond, ℤ, pos, negsuc, Float}
use Rattle.std.specs.Float.Ieee.{lt}
use Rattle.cells.specs.Line.{plus_zero}

-- what stands for a position above 0, for one below 0, and for any other
abbrev pub by_side : {A : Type 0} → Float → A → A → A → A
by_side x long short flat = cond (lt plus_zero x) long (cond (lt x plus_zero) short flat)

-- the whole number of a position
abbrev pub whole_position : Float → ℤ
whole_position x = by_side x (pos 1) (negsuc 0) (pos 0)
