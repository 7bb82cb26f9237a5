-- A place in a window, counted by one difference. Assumes nothing.
use Rattle.std.specs.Prelude.{ℕ, ◌+◌, ◌-◌}
use Rattle.cells.specs.Line.{Line}
use Rattle.rounding.specs.Literals.{ten_to_minus}
use Rattle.ranks.specs.Counted.{below_by, count_from}

-- one more than how many of the w - 1 cells before bar i lie below that of bar i by 1e-8 or more
unfoldable pub counted_place : ℕ → Line → ℕ → ℕ
counted_place w f i = count_from (below_by (ten_to_minus 8) (f i)) f (i + 1 - w) (w - 1) + 1
