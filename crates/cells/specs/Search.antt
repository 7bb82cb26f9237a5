-- The first bar that passes a test, and tests of every bar. Assumes nothing.
use Rattle.std.specs.Prelude.{Bool, true, not, cond, ◌&&◌, ℕ, zero, suc, Float}
use Rattle.std.specs.Float.Ieee.{eq}
use Rattle.cells.specs.Line.{plus_zero}

-- not 0, of either sign
abbrev pub non_zero : Float → Bool
non_zero x = not (eq x plus_zero)

-- the first of the bars 0 to k - 1 that passes, and k where none does
unfoldable pub first_bar : (ℕ → Bool) → ℕ → ℕ
first_bar test zero = 0
first_bar test (suc k) = cond (test 0) 0 (suc (first_bar (λ j. test (suc j)) k))

-- whether each of the bars 0 to k - 1 passes
unfoldable pub every_bar : (ℕ → Bool) → ℕ → Bool
every_bar test zero = true
every_bar test (suc k) = every_bar test k && test k
