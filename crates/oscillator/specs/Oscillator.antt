-- Larry Williams, The Ultimate Oscillator, Technical Analysis of Stocks & Commodities, 1985: buying pressure over true
-- range in three windows, weighed 4, 2 and 1. What `ultimate_oscillator` answers and writes. Assumes nothing.
use Rattle.std.specs.Prelude.{false, cond, List, [], ◌∷◌, ℕ, ◌+◌, ◌-◌, max, pos, length, Float, Ok, Option, None, Some}
use Rattle.std.specs.Float.{nan, fin, binary64}
use Rattle.std.specs.Float.Ieee.{add, sub, mul, div, eq}
use Rattle.rounding.specs.Literals.{hundred}
use Rattle.values.specs.Accepted.{accepted}
use Rattle.calls.specs.Answer.{Answer, and_then, checked, windowed}
use Rattle.calls.specs.Call.{WorkCall}
use Rattle.cells.specs.Line.{Line, line, plus_zero, from_bar}
use Rattle.windows.specs.Window.{sum_from}
use Rattle.extremes.specs.Extreme.{smaller}
use Rattle.true_range.specs.TrueRange.{close_before, true_ranges, close_checked}

-- the close before a bar, and the bar's own where that is unknown
abbrev pub last_close : Float → Option Float → Float
last_close close None = close
last_close close (Some before) = before

-- Buying pressure: the close less the smaller of the low and the close before.
unfoldable pub pressure : Float → Float → Option Float → Float
pressure low close before = sub binary64 close (smaller low (last_close close before))

-- the pressure of every bar
unfoldable pub pressures : Option Float → Line → Line → Line
pressures first low close i = pressure (low i) (close i) (close_before first close i)

-- x over y, and 0 where y is 0
abbrev pub ratio : Float → Float → Float
ratio x y = cond (eq y plus_zero) plus_zero (div binary64 x y)

-- the sum of the last n cells of f over that of g, both from z on
unfoldable pub share : Float → ℕ → Line → Line → Line
share z n f g i = ratio (sum_from z f (i + 1 - n) n) (sum_from z g (i + 1 - n) n)

-- 100 · (4 · short + 2 · medium + long) / 7
abbrev pub weighed : Float → Float → Float → Float
weighed short medium long =
    let four = fin false 1 (pos 2) in
    let two = fin false 1 (pos 1) in
    let seven = fin false 7 (pos 0) in
    div binary64
    (mul binary64 hundred (add binary64 (add binary64 (mul binary64 four short) (mul binary64 two medium)) long)) seven

-- three shares weighed, and NaN before the longest window is whole
unfoldable pub weighed_shares : Float → ℕ → ℕ → ℕ → Line → Line → Line
weighed_shares z short medium long f g = from_bar (max short (max medium long) - 1) nan
    (λ i. weighed (share z short f g i) (share z medium f g i) (share z long f g i))

-- the shares of pressure in true range, with a short, a medium and a long window and sums from 0.0
unfoldable pub oscillator_line : ℕ → ℕ → ℕ → Option Float → Line → Line → Line → Line
oscillator_line short medium long first high low close =
    weighed_shares plus_zero short medium long (pressures first low close)
    (true_ranges high low (close_before first close))

unfoldable pub oscillator_answer : List Float → List Float → List Float → ℕ → ℕ → ℕ → Option Float → ℕ → ℕ → Answer
oscillator_answer high low close short medium long first output work =
    and_then (checked accepted (high ∷ low ∷ close ∷ []) (output ∷ []) (work ∷ []))
    (close_checked first (windowed (length high) (short ∷ medium ∷ long ∷ []) (Ok (length high))))

-- what a call of `ultimate_oscillator` promises
abbrev pub OscillatorCall : List Float → List Float → List Float → ℕ → ℕ → ℕ → Option Float → List Float → List Float
    → Answer → List Float → List Float → Type 0
OscillatorCall high low close short medium long first out₀ work₀ =
    WorkCall (oscillator_answer high low close short medium long first (length out₀) (length work₀))
    (oscillator_line short medium long first (line high) (line low) (line close)) out₀ (length high) work₀
