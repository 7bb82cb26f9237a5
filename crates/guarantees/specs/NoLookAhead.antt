-- No look-ahead: of two calls of one function with equal parameters and equal bars up to bar b, each answered with as
-- many cells as bars, the cells of bars 0 to b are equal. The two series may have different lengths, and a window may
-- exceed one of them and not the other. NaN is one value of `Float`, so equal cells are the same number with the same
-- sign, or both NaN. Assumes nothing.
use Rattle.std.specs.Prelude.{◌≡◌, ℕ, ◌<◌, ◌≤◌, length, get_or, Float}
use mathlib.Core.List.{List}
use Rattle.cells.specs.Line.{line, Same}

-- both series have more than b bars, and the same values at bars 0 to b
pub record EqualBars (s t : List Float) (b : ℕ) : Type 0 where
  pub left : b < length s
  pub right : b < length t
  pub same : Same (line s) (line t) b

-- the same cells at bars 0 to b; d stands past an output's end, where neither has its end before bar b
abbrev pub EqualCells : {A : Type 0} → A → List A → List A → ℕ → Type 0
EqualCells d out out' b = (j : ℕ) → j ≤ b → get_or out j d ≡ get_or out' j d
