-- mid_positions, the middle: what it answers and writes. Assumes nothing.
use Rattle.std.specs.Prelude.{cond, ◌||◌, List, [], ◌∷◌, ℕ, ◌-◌, ◌*◌, Float, length}
use Rattle.std.specs.Float.{binary64}
use Rattle.std.specs.Float.Ieee.{add, sub, div, eq}
use Rattle.cells.specs.Line.{plus_zero, Line, from_bar, line}
use Rattle.rounding.specs.Leaves.{sign_of, two}
use Rattle.windows.specs.Window.{mean}
use Rattle.extremes.specs.Extreme.{larger, smaller, extreme}
use Rattle.calls.specs.Answer.{answered, Answer}
use Rattle.calls.specs.Call.{WorkCall}
use Rattle.values.specs.Accepted.{accepted}

-- the sign of the mean less half of highest plus lowest, 0 if either is 0
abbrev pub against_middle : Float → Float → Float → Float
against_middle average high low =
    cond (eq high plus_zero || eq low plus_zero) plus_zero
    (sign_of (sub binary64 average (div binary64 (add binary64 high low) two)))

-- the means against the middle of a highest and a lowest one, from bar 2n - 2 on
abbrev pub against_middles : ℕ → Line → Line → Line → Line
against_middles n means highs lows = from_bar (2 * n - 2) plus_zero (λ i. against_middle (means i) (highs i) (lows i))

-- ---- mid_positions: the middle

-- the mean against the middle of the last n means, from bar 2n - 2 on
unfoldable pub mid_line : ℕ → Line → Line
mid_line n f = against_middles n (mean n f) (extreme larger n (mean n f)) (extreme smaller n (mean n f))

-- what a call of `mid_positions` promises
abbrev pub MidCall : List Float → ℕ → List Float → List Float → Answer → List Float → List Float → Type 0
MidCall s n out₀ work₀ =
    WorkCall (answered accepted s (n ∷ []) (length out₀) (length work₀ ∷ [])) (mid_line n (line s)) out₀ (length s)
    work₀
