-- The step of an exponential average, a line of such steps from a seed, and the weight of n bars. Assumes nothing.
use Rattle.std.specs.Prelude.{ℕ, ◌+◌, pos, Float}
use Rattle.std.specs.Float.{nan, binary64}
use Rattle.std.specs.Float.Ieee.{add, sub, mul, div, of_int}
use Rattle.cells.specs.Line.{Line}
use Rattle.cells.specs.Recur.{carried}
use Rattle.rounding.specs.Leaves.{plus_one, two}

-- alpha · x + (1 - alpha) · last
abbrev pub blend : Float → Float → Float → Float
blend alpha last x = add binary64 (mul binary64 alpha x) (mul binary64 (sub binary64 plus_one alpha) last)

-- the seed stands at bar a, each later cell blends its bar with the cell before it, and NaN stands before bar a
abbrev pub smooth_line : Float → ℕ → Float → Line → Line
smooth_line alpha = carried nan (blend alpha)

-- 2 / (n + 1)
abbrev pub ema_alpha : ℕ → Float
ema_alpha n = div binary64 two (of_int binary64 (pos (n + 1)))
