-- ema: what it answers and writes. TA-Lib's EMA. Assumes nothing.
use Rattle.std.specs.Prelude.{List, [], ◌∷◌, ℕ, ◌-◌, Float, length}
use Rattle.cells.specs.Line.{Line, line}
use Rattle.windows.specs.Window.{mean}
use Rattle.averages.specs.Blend.{ema_alpha, smooth_line}
use Rattle.calls.specs.Answer.{answered, Answer}
use Rattle.calls.specs.Call.{Call}
use Rattle.values.specs.Accepted.{accepted}

-- TA-Lib's EMA: the seed is the mean of the first n, at bar n - 1
abbrev pub ema_line : ℕ → Line → Line
ema_line n f = smooth_line (ema_alpha n) (n - 1) (mean n f (n - 1)) f

-- what a call of `ema` promises
abbrev pub EmaCall : List Float → ℕ → List Float → Answer → List Float → Type 0
EmaCall s n out₀ = Call (answered accepted s (n ∷ []) (length out₀) []) (ema_line n (line s)) out₀
