-- exponential_smoothing: what it answers and writes. Assumes nothing.
use Rattle.std.specs.Prelude.{List, [], ◌∷◌, ℕ, length, Float, Ok}
use Rattle.calls.specs.declared.Refusal.TheVariants.{ParameterNotFinite}
use Rattle.calls.specs.Answer.{Answer, checked, and_then, unless}
use Rattle.values.specs.Accepted.{accepted, finite}
use Rattle.cells.specs.Line.{Line, line}
use Rattle.averages.specs.Blend.{smooth_line}
use Rattle.calls.specs.Call.{Call}

-- the seed is the first value
abbrev pub exponential_line : Float → Line → Line
exponential_line alpha f = smooth_line alpha 0 (f 0) f

-- refusals 1 to 5, then 6 for alpha; no bars give the empty answer
unfoldable pub exponential_answer : List Float → Float → ℕ → Answer
exponential_answer s alpha output = and_then (checked accepted (s ∷ []) (output ∷ []) [])
    (unless (finite alpha) ParameterNotFinite (Ok (length s)))

-- what a call of `exponential_smoothing` promises
abbrev pub ExponentialSmoothingCall : List Float → Float → List Float → Answer → List Float → Type 0
ExponentialSmoothingCall s alpha out₀ = Call (exponential_answer s alpha (length out₀))
    (exponential_line alpha (line s)) out₀
