-- Bands about the ultimate smoother, named after John Ehlers' ultimate bands: what `ultimate_bands` answers and writes.
-- The middle is the smoothed close, and the width the smoothed deviation of the close. Assumes nothing.
use Rattle.std.specs.Prelude.{cond, List, [], ◌∷◌, ℕ, ◌-◌, ltb, length, Float, Ok}
use Rattle.values.specs.Accepted.{accepted}
use Rattle.calls.specs.Answer.{Answer, and_then, empty_if, checked, limited, unless_empty}
use Rattle.calls.specs.Call.{BandCall}
use Rattle.cells.specs.Line.{Line, line, plus_zero}
use Rattle.smoother_table.specs.Coefficients.{coefficients}
use Rattle.smoother.specs.Smoother.{smooth}
use Rattle.deviations.specs.Deviation.{deviation}
use Rattle.outer_lines.specs.OuterLines.{upper_line, lower_line}

unfoldable pub bands_middle : ℕ → Line → Line
bands_middle n f = smooth (coefficients n) f

-- The deviation of the last n closes over n - 1, with sums from 0.0: NaN before bar n - 1. Of one close it is 0.0.
unfoldable pub bands_deviation : ℕ → Line → Line
bands_deviation n f = cond (ltb 1 n) (deviation plus_zero (n - 1) n f) (λ i. plus_zero)

-- It is smoothed with a period of its own.
unfoldable pub bands_width : ℕ → ℕ → Line → Line
bands_width n m f = smooth (coefficients m) (bands_deviation n f)

unfoldable pub bands_upper : ℕ → Float → ℕ → Line → Line
bands_upper n k m f = upper_line k (bands_middle n f) (bands_width n m f)

unfoldable pub bands_lower : ℕ → Float → ℕ → Line → Line
bands_lower n k m f = lower_line k (bands_middle n f) (bands_width n m f)

-- both periods are smoother periods; the answer is empty where L is below the first
unfoldable pub bands_answer : List Float → ℕ → Float → ℕ → ℕ → ℕ → ℕ → ℕ → Answer
bands_answer s n k m middle upper lower work =
    and_then (checked accepted (s ∷ []) (middle ∷ upper ∷ lower ∷ []) (work ∷ []))
    (limited (k ∷ []) [] (n ∷ m ∷ [])
    (unless_empty (length s) [] (n ∷ m ∷ [])
    (empty_if (ltb (length s) n)
    (Ok (length s)))))

-- what a call of `ultimate_bands` promises
abbrev pub UltimateBandsCall : List Float → ℕ → Float → ℕ → List Float → List Float → List Float → List Float → Answer
    → List Float → List Float → List Float → List Float → Type 0
UltimateBandsCall s n k m middle₀ upper₀ lower₀ work₀ =
    BandCall (bands_answer s n k m (length middle₀) (length upper₀) (length lower₀) (length work₀))
    (bands_middle n (line s)) (bands_upper n k m (line s)) (bands_lower n k m (line s))
    middle₀ upper₀ lower₀ (length s) work₀
