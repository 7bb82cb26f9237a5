-- Both rules in one, by whether the rule is the reverse one; and how cells are written, a few bars at a time. Assumes
-- nothing.
use Rattle.std.specs.Prelude.{Bool, cond, List, [], ◌∷◌, ℕ, zero, suc, ◌+◌, ◌-◌, ◌*◌, ◌<◌, ◌≤◌, ℤ, length, get_or, Float}
use Rattle.cells.specs.Line.{Line, line}
use Rattle.cells.specs.Written.{Writing}
use Rattle.limits.specs.Limits.{Window}
use Rattle.calls.specs.Answer.{Answer, answered_with}
use Rattle.calls.specs.Call.{WorkCall}
use Rattle.values.specs.Accepted.{accepted}
use Rattle.rules_held.specs.Held.{flat, moved}
use Rattle.rules_bands.specs.Boll.{outside_at, outside_bands, boll_line}
use Rattle.rules_bands.specs.BollReverse.{turns_at, band_signals, turned_bands, boll_reverse_line}

-- what the variance of the last n cells is over
abbrev pub divisor_of : Bool → ℕ → ℕ
divisor_of reverse n = cond reverse n (n - 1)

-- the position after a bar, from the one before it
abbrev pub position_after : Bool → ℤ → Float → Float → Float → Float → ℤ
position_after reverse position average middle k width =
    cond reverse (moved position (turns_at average middle k width)) (outside_at average middle k width)

-- the position after bar i of a line, from the one before it
unfoldable pub position_step : Bool → ℕ → Float → Line → ℕ → ℤ → ℤ
position_step reverse n k g i position =
    cond reverse (moved position (band_signals n k g i)) (outside_bands n k g i)

-- the positions against the bands of a line
unfoldable pub band_positions : Bool → ℕ → Float → Line → ℕ → ℤ
band_positions reverse n k g = cond reverse (turned_bands n k g) (outside_bands n k g)

-- the line of either rule, on the means of the last n prices
abbrev pub bands_line : Bool → ℕ → Float → Line → ℕ → ℤ
bands_line reverse n k f = cond reverse (boll_reverse_line n k f) (boll_line n k f)

-- what a call of either rule promises
abbrev pub BandsCall : Bool → List Float → ℕ → Float → List ℤ → List Float → Answer → List ℤ → List Float → Type 0
BandsCall reverse s n k out₀ work₀ =
    WorkCall (answered_with accepted s (k ∷ []) (n ∷ []) (length out₀) (length work₀ ∷ []))
    (bands_line reverse n k (line s)) out₀ (length s) work₀

-- the bands are there from bar i on, which is inside; the cells of f before it stand in `now`, which has room for the
-- rest
pub record PositionsBefore {A : Type 0} (n : ℕ) (s : List Float) (i : ℕ) (f : ℕ → A) (now : List A) : Type 0 where
  pub window : Window n
  pub full : 2 * n ≤ i + 2
  pub inside : i < length s
  pub room : length s ≤ length now
  pub cells : Writing i f now now

-- the position at the bar before bar i, flat where there is none
unfoldable pub position_before : ℕ → List ℤ → ℤ
position_before zero out = flat
position_before (suc i) out = get_or out i flat
