-- The one-average rule's positions from any averages. Assumes nothing.
use Rattle.std.specs.Prelude.{ℕ, ◌-◌, ◌*◌}
use Rattle.cells.specs.Line.{Line, plus_zero, from_bar}
use Rattle.rules_single.specs.Single.{against_mean}

-- the prices of f against the averages of g, from bar 2n - 2 on
abbrev pub positions : ℕ → Line → Line → Line
positions n f g = from_bar (2 * n - 2) plus_zero (λ i. against_mean (f i) (g i))
