-- True range: J. Welles Wilder, New Concepts in Technical Trading Systems, 1978; what `true_range` writes. Assumes
-- nothing.
use Rattle.std.specs.Prelude.{Bool, true, List, [], ◌∷◌, ℕ, zero, suc, ◌-◌, Float, length, Ok, Option, None, Some}
use Rattle.std.specs.Float.{binary64}
use Rattle.std.specs.Float.Ieee.{sub}
use Rattle.rounding.specs.Leaves.{magnitude_of}
use Rattle.cells.specs.Line.{Line, line}
use Rattle.extremes.specs.Extreme.{larger}
use Rattle.calls.specs.Answer.{unless, and_then, checked, Answer}
use Rattle.calls.specs.Call.{Call}
use Rattle.calls.specs.declared.Refusal.TheVariants.{ValueNotAccepted}
use Rattle.values.specs.Accepted.{accepted}

-- The largest of high less low, the size of high less the close before, and the size of low less it. Where the close
-- before is unknown: high less low.
unfoldable pub true_range : Float → Float → Option Float → Float
true_range high low None = sub binary64 high low
true_range high low (Some before) =
    larger (larger (sub binary64 high low) (magnitude_of (sub binary64 high before)))
    (magnitude_of (sub binary64 low before))

-- The close before each bar, of a line that has it at the bar itself. That of bar 0 is given apart.
unfoldable pub given_before : Option Float → Line → ℕ → Option Float
given_before first before zero = first
given_before first before (suc i) = Some (before (suc i))

-- the close of the bar before
abbrev pub close_before : Option Float → Line → ℕ → Option Float
close_before first close = given_before first (λ i. close (i - 1))

-- the true range of every bar
unfoldable pub true_ranges : Line → Line → (ℕ → Option Float) → Line
true_ranges high low before i = true_range (high i) (low i) (before i)

-- ---- the close before bar 0

-- that of a flag and a number: 0 says that it is unknown, and any other flag that it is the number
abbrev pub supplied : ℕ → Float → Option Float
supplied zero close = None
supplied (suc flag) close = Some close

-- it is unknown, or a value that a series may hold
abbrev pub accepted_close : Option Float → Bool
accepted_close None = true
accepted_close (Some close) = accepted close

-- Refusal 5 for it, then what is next.
abbrev pub close_checked : Option Float → Answer → Answer
close_checked first next = unless (accepted_close first) ValueNotAccepted next

-- ---- the call

-- Refusal 5 for the close before bar 0 comes after the series.
unfoldable pub true_range_answer : List Float → List Float → List Float → Option Float → ℕ → Answer
true_range_answer high low before first output =
    and_then (checked accepted (high ∷ low ∷ before ∷ []) (output ∷ []) []) (close_checked first (Ok (length high)))

-- what a call of `true_range` promises
abbrev pub TrueRangeCall : List Float → List Float → List Float → Option Float → List Float → Answer → List Float
    → Type 0
TrueRangeCall high low before first out₀ =
    Call (true_range_answer high low before first (length out₀))
    (true_ranges (line high) (line low) (given_before first (line before))) out₀
