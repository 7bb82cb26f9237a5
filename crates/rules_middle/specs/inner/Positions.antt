-- The middle rule's positions from any means and their ranges. Assumes nothing.
use Rattle.std.specs.Prelude.{ℕ, ◌+◌}
use Rattle.cells.specs.Line.{Line}
use Rattle.rules_middle.specs.Middle.{against_middles}

-- the means of g against the middles of two rows, the highest means and the lowest, from bar 2n - 2 on
abbrev pub positions : ℕ → ℕ → Line → Line → Line
positions n bars g rows = against_middles n g rows (λ i. rows (bars + i))
