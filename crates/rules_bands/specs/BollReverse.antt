-- boll_reverse_positions: against Bollinger's bands of the means of prices, held to the middle. Assumes nothing.
use Rattle.std.specs.Prelude.{cond, List, [], ◌∷◌, ℕ, ◌-◌, ◌*◌, ℤ, length, Float}
use Rattle.std.specs.Float.Ieee.{lt}
use Rattle.cells.specs.Line.{Line, line, minus_zero, from_bar}
use Rattle.windows.specs.Window.{mean}
use Rattle.deviations.specs.Deviation.{deviation, upper_band, lower_band}
use Rattle.rules_held.specs.Held.{flat, long, short, Signal, silent, hold}
use Rattle.calls.specs.Answer.{Answer, answered_with}
use Rattle.calls.specs.Call.{WorkCall}
use Rattle.values.specs.Accepted.{accepted}

-- above the upper band a flat position opens short, else below the lower one it opens long
abbrev pub opens_at : Float → Float → Float → Float → ℤ
opens_at average middle k width =
    cond (lt (upper_band k middle width) average) short (cond (lt average (lower_band k middle width)) long flat)

-- a long position closes above the middle, and a short one below it
abbrev pub turns_at : Float → Float → Float → Float → Signal
turns_at average middle k width = record {
  opens = opens_at average middle k width;
  closes_long = lt middle average;
  closes_short = lt average middle;
}

-- what each bar of a line says against Bollinger's bands of its last n cells, from bar 2n - 2 on; the width is over n
unfoldable pub band_signals : ℕ → Float → Line → ℕ → Signal
band_signals n k g = from_bar (2 * n - 2) silent (λ i. turns_at (g i) (mean n g i) k (deviation minus_zero n n g i))

-- the position that is held by these
unfoldable pub turned_bands : ℕ → Float → Line → ℕ → ℤ
turned_bands n k g = hold (band_signals n k g)

-- the line is that of the means of the last n prices
abbrev pub boll_reverse_line : ℕ → Float → Line → ℕ → ℤ
boll_reverse_line n k f = turned_bands n k (mean n f)

-- what a call of `boll_reverse_positions` promises
abbrev pub BollReverseCall : List Float → ℕ → Float → List ℤ → List Float → Answer → List ℤ → List Float → Type 0
BollReverseCall s n k out₀ work₀ =
    WorkCall (answered_with accepted s (k ∷ []) (n ∷ []) (length out₀) (length work₀ ∷ []))
    (boll_reverse_line n k (line s)) out₀ (length s) work₀
