-- single_ema_positions: the price against the exponential average of its means, as TA-Lib's EMA takes it from a first
-- bar on. That bar is searched for among all bars, so it may look ahead. Assumes nothing.
use Rattle.std.specs.Prelude.{cond, List, [], ◌∷◌, ℕ, ◌+◌, ◌-◌, ltb, length, Float}
use Rattle.std.specs.Float.{binary64}
use Rattle.std.specs.Float.Ieee.{sub}
use Rattle.cells.specs.Line.{Line, line, plus_zero, from_bar}
use Rattle.cells.specs.Search.{first_bar, non_zero}
use Rattle.cells.specs.Recur.{carried}
use Rattle.rounding.specs.Leaves.{sign_of}
use Rattle.windows.specs.Window.{mean}
use Rattle.averages.specs.Blend.{blend, ema_alpha}
use Rattle.values.specs.Accepted.{accepted}
use Rattle.calls.specs.Answer.{answered, Answer}
use Rattle.calls.specs.Call.{WorkCall}

-- the first of l bars at which the line is not 0, and bar 0 where there is none
unfoldable pub first_usable : ℕ → Line → ℕ
first_usable l f = let j = first_bar (λ i. non_zero (f i)) l in cond (ltb j l) j 0

-- the exponential average of the line's means over n: at bar `start` the mean of the last n means, then 2 / (n + 1)
-- of each mean
unfoldable pub ema_of_means : ℕ → ℕ → Line → Line
ema_of_means start n f = carried plus_zero (blend (ema_alpha n)) start (mean n (mean n f) start) (mean n f)

-- the sign of the price less that average, and 0 before bar `start`
unfoldable pub single_ema_from : ℕ → ℕ → Line → Line
single_ema_from start n f = from_bar start plus_zero (λ i. sign_of (sub binary64 (f i) (ema_of_means start n f i)))

-- of l bars: it starts n - 1 bars after the first mean that is not 0, or at bar n - 1
unfoldable pub single_ema_line : ℕ → ℕ → Line → Line
single_ema_line l n f = single_ema_from (first_usable l (mean n f) + (n - 1)) n f

-- what a call of `single_ema_positions` promises
abbrev pub SingleEmaCall : List Float → ℕ → List Float → List Float → Answer → List Float → List Float → Type 0
SingleEmaCall s n out₀ work₀ =
    WorkCall (answered accepted s (n ∷ []) (length out₀) (length work₀ ∷ [])) (single_ema_line (length s) n (line s))
    out₀ (length s) work₀
