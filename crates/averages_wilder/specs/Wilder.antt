-- Wilder's average: J. Welles Wilder, New Concepts in Technical Trading Systems, 1978. Every operation is rounded once.
-- Assumes nothing.
use Rattle.std.specs.Prelude.{ℕ, ◌-◌, ◌+◌, pos, Float}
use Rattle.std.specs.Float.{binary64, nan}
use Rattle.std.specs.Float.Ieee.{add, mul, of_int}
use Rattle.windows.specs.Window.{over, sum_from}
use Rattle.cells.specs.Line.{Line, plus_zero}
use Rattle.cells.specs.Recur.{carried}

-- (last · (n - 1) + x) / n
abbrev pub wilder_step : ℕ → Float → Float → Float
wilder_step n last x = over n (add binary64 (mul binary64 last (of_int binary64 (pos (n - 1)))) x)

-- the mean of the n bars up to bar a, summed from +0.0
abbrev pub wilder_seed : ℕ → ℕ → Line → Float
wilder_seed n a f = over n (sum_from plus_zero f (a + 1 - n) n)

-- that seed stands at bar a, and NaN before it
unfoldable pub wilder : ℕ → ℕ → Line → Line
wilder n a f = carried nan (wilder_step n) a (wilder_seed n a f) f
