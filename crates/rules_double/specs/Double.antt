-- double_sma_positions, two averages: what it answers and writes. Assumes nothing.
use Rattle.std.specs.Prelude.{List, [], ◌∷◌, ℕ, ◌+◌, ◌-◌, ltb, length, Float, Ok}
use Rattle.std.specs.Float.{binary64}
use Rattle.std.specs.Float.Ieee.{sub}
use Rattle.calls.specs.declared.Refusal.TheVariants.{WindowsOutOfOrder}
use Rattle.calls.specs.Answer.{Answer, checked, and_then, unless, windowed}
use Rattle.values.specs.Accepted.{accepted}
use Rattle.cells.specs.Line.{Line, plus_zero, from_bar, line}
use Rattle.rounding.specs.Leaves.{sign_of}
use Rattle.windows.specs.Window.{over, running_sum, add_then_subtract}
use Rattle.calls.specs.Call.{Call}

-- the average of n bars at bar i, by a running sum
unfoldable pub running_mean : ℕ → Line → Line
running_mean n f i = over n (running_sum add_then_subtract n f (i + 1 - n))

-- the sign of the short average less the long one, from bar m - 1 on
unfoldable pub double_line : ℕ → ℕ → Line → Line
double_line n m f = from_bar (m - 1) plus_zero (λ i. sign_of (sub binary64 (running_mean n f i) (running_mean m f i)))

-- after the empty answer, refusal 9 where n is not below m
unfoldable pub double_answer : List Float → ℕ → ℕ → ℕ → Answer
double_answer s n m output =
    and_then (checked accepted (s ∷ []) (output ∷ []) [])
    (windowed (length s) (n ∷ m ∷ [])
    (unless (ltb n m) WindowsOutOfOrder (Ok (length s))))

-- what a call of `double_sma_positions` promises
abbrev pub DoubleCall : List Float → ℕ → ℕ → List Float → Answer → List Float → Type 0
DoubleCall s n m out₀ = Call (double_answer s n m (length out₀)) (double_line n m (line s)) out₀
