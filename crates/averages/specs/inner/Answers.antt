-- What the answers of the exponential averages have in common. Assumes nothing.
use Rattle.std.specs.Prelude.{List, ℕ, length, Float, Ok}
use Rattle.values.specs.Accepted.{accepted, all}
use Rattle.calls.specs.declared.Refusal.TheVariants.{ValueNotAccepted}
use Rattle.calls.specs.Answer.{Answer, unless}
use Rattle.calls.specs.Call.{Call}
use Rattle.cells.specs.Line.{line}
use Rattle.averages.specs.Blend.{smooth_line}

-- a call whose lengths and parameters are in order: only the values are left to be refused
abbrev pub SmoothCall : List Float → Float → ℕ → Float → List Float → Answer → List Float → Type 0
SmoothCall s alpha first seed = Call (unless (all accepted s) ValueNotAccepted (Ok (length s)))
    (smooth_line alpha first seed (line s))
