-- sma: what it answers and writes. TA-Lib's SMA. Assumes nothing.
use Rattle.std.specs.Prelude.{List, [], ◌∷◌, ℕ, ◌+◌, ◌-◌, Float, length}
use Rattle.std.specs.Float.{nan}
use Rattle.cells.specs.Line.{Line, from_bar, line}
use Rattle.windows.specs.Window.{over, running_sum, add_difference}
use Rattle.calls.specs.Answer.{answered, Answer}
use Rattle.calls.specs.Call.{Call}
use Rattle.values.specs.Accepted.{accepted}

-- the running sum divided by n, and NaN before bar n - 1
unfoldable pub sma_line : ℕ → Line → Line
sma_line n f = from_bar (n - 1) nan (λ i. over n (running_sum add_difference n f (i + 1 - n)))

-- what a call of `sma` promises
abbrev pub SmaCall : List Float → ℕ → List Float → Answer → List Float → Type 0
SmaCall s n out₀ = Call (answered accepted s (n ∷ []) (length out₀) []) (sma_line n (line s)) out₀
