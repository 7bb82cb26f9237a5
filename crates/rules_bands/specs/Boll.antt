-- boll_positions: the means of prices against Bollinger's bands of those means. Assumes nothing.
use Rattle.std.specs.Prelude.{List, [], ◌∷◌, cond, ℕ, ◌-◌, ◌*◌, length, Float, ℤ}
use Rattle.std.specs.Float.{binary64}
use Rattle.std.specs.Float.Ieee.{add, sub, lt}
use Rattle.calls.specs.Answer.{Answer, answered_with}
use Rattle.values.specs.Accepted.{accepted}
use Rattle.rounding.specs.Literals.{ten_to_minus}
use Rattle.cells.specs.Line.{Line, line, minus_zero, from_bar}
use Rattle.windows.specs.Window.{mean}
use Rattle.deviations.specs.Deviation.{deviation, upper_band, lower_band}
use Rattle.rules_held.specs.Held.{flat, long, short}
use Rattle.calls.specs.Call.{WorkCall}

-- +1 above the band of a middle and a width, -1 below it, each by more than a margin, and else 0; a NaN in the band
-- gives 0
abbrev pub beyond : Float → Float → Float → Float → Float → ℤ
beyond margin average middle k width =
    cond (lt (add binary64 (upper_band k middle width) margin) average) long
    (cond (lt average (sub binary64 (lower_band k middle width) margin)) short flat)

-- the margin is 1e-10
abbrev pub outside_at : Float → Float → Float → Float → ℤ
outside_at = beyond (ten_to_minus 10)

-- A line against Bollinger's bands of its last n cells ("Bollinger on Bollinger Bands", 2001), from bar 2n - 2 on.
-- The middle is the mean of those cells, and the width their deviation over n - 1.
unfoldable pub outside_bands : ℕ → Float → Line → ℕ → ℤ
outside_bands n k g =
    from_bar (2 * n - 2) flat (λ i. outside_at (g i) (mean n g i) k (deviation minus_zero (n - 1) n g i))

-- the line is that of the means of the last n prices
abbrev pub boll_line : ℕ → Float → Line → ℕ → ℤ
boll_line n k f = outside_bands n k (mean n f)

-- what a call of `boll_positions` promises
abbrev pub BollCall : List Float → ℕ → Float → List ℤ → List Float → Answer → List ℤ → List Float → Type 0
BollCall s n k out₀ work₀ =
    WorkCall (answered_with accepted s (k ∷ []) (n ∷ []) (length out₀) (length work₀ ∷ [])) (boll_line n k (line s))
    out₀
    (length s) work₀
