-- single_sma_positions, one average: what it answers and writes. Assumes nothing.
use Rattle.std.specs.Prelude.{cond, List, [], ◌∷◌, ℕ, ◌-◌, ◌*◌, Float, length}
use Rattle.std.specs.Float.{binary64}
use Rattle.std.specs.Float.Ieee.{sub, eq}
use Rattle.cells.specs.Line.{plus_zero, Line, from_bar, line}
use Rattle.rounding.specs.Leaves.{sign_of}
use Rattle.windows.specs.Window.{mean}
use Rattle.calls.specs.Answer.{answered, Answer}
use Rattle.calls.specs.Call.{WorkCall}
use Rattle.values.specs.Accepted.{accepted}

-- the sign of price less its average, 0 where that average is 0.0
abbrev pub against_mean : Float → Float → Float
against_mean price average = cond (eq average plus_zero) plus_zero (sign_of (sub binary64 price average))

-- ---- single_sma_positions: one average

-- the price against the doubly averaged price, from bar 2n - 2 on
unfoldable pub single_line : ℕ → Line → Line
single_line n f = from_bar (2 * n - 2) plus_zero (λ i. against_mean (f i) (mean n (mean n f) i))

-- what a call of `single_sma_positions` promises
abbrev pub SingleCall : List Float → ℕ → List Float → List Float → Answer → List Float → List Float → Type 0
SingleCall s n out₀ work₀ =
    WorkCall (answered accepted s (n ∷ []) (length out₀) (length work₀ ∷ [])) (single_line n (line s)) out₀ (length s)
    work₀
