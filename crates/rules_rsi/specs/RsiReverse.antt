-- rsi_reverse_positions: against the relative strength index of the means of prices, held to an exit level. The index
-- is Wilder's ("New Concepts in Technical Trading Systems", 1978), of plain averages. Assumes nothing.
use Rattle.std.specs.Prelude.{cond, List, [], ◌∷◌, ℕ, ◌-◌, max, ℤ, Float, leb, length}
use Rattle.std.specs.Float.Ieee.{lt, eq}
use Rattle.std.specs.Float.{nan}
use Rattle.cells.specs.Line.{Line, line, plus_zero}
use Rattle.rules_held.specs.Held.{flat, long, short, Signal, hold}
use Rattle.rounding.specs.Literals.{hundred}
use Rattle.windows.specs.Window.{sum_from, over, mean}
use Rattle.changes.specs.Changes.{gains, losses, rsi_formula}
use Rattle.values.specs.Accepted.{accepted}
use Rattle.calls.specs.Answer.{Answer, answered_with}
use Rattle.calls.specs.Call.{WorkCall}

-- what a flat position opens: long below `lower`, else short above `upper`
abbrev pub opens_at : Float → Float → Float → ℤ
opens_at upper lower x = cond (lt x lower) long (cond (lt upper x) short flat)

-- A long position closes above `exit`, and a short one below it. A NaN opens and closes nothing.
abbrev pub turns_at : Float → Float → Float → Float → Signal
turns_at upper lower exit x = record {
  opens = opens_at upper lower x;
  closes_long = lt exit x;
  closes_short = lt x exit;
}

-- the position that is held by a line of indexes
unfoldable pub turned : Float → Float → Float → Line → ℕ → ℤ
turned upper lower exit g = hold (λ i. turns_at upper lower exit (g i))

-- The changes of means at bars max(0, i - n) to i - 1 are those of bar i; the present bar is left out. The means begin
-- at bar n - 1 and their changes at bar n, so the first of them is at bar n or later.
unfoldable pub first_change : ℕ → ℕ → ℕ
first_change n i = max n (i - n)

-- how many they are
unfoldable pub changes_before : ℕ → ℕ → ℕ
changes_before n i = i - first_change n i

-- a line's sum over those bars, from 0.0
unfoldable pub sum_before : ℕ → Line → Line
sum_before n f i = sum_from plus_zero f (first_change n i) (changes_before n i)

-- the index of the averages of k gains and losses, by their sums; 100 where the sum of the losses is 0
abbrev pub index_of : ℕ → Float → Float → Float
index_of k up down = cond (eq down plus_zero) hundred (rsi_formula (over k up) (over k down))

-- The index at bar i of a line of means. It needs at least n - 1 changes, and is NaN where there are fewer.
unfoldable pub rsi_before : ℕ → Line → Line
rsi_before n means i =
    cond (leb (n - 1) (changes_before n i))
    (index_of (changes_before n i) (sum_before n (gains means) i) (sum_before n (losses means) i))
    nan

-- the indexes are those of the means of the last n prices
unfoldable pub rsi_reverse_line : ℕ → Float → Float → Float → Line → ℕ → ℤ
rsi_reverse_line n upper lower exit f = turned upper lower exit (rsi_before n (mean n f))

-- what a call of `rsi_reverse_positions` promises
abbrev pub RsiReverseCall : List Float → ℕ → Float → Float → Float → List ℤ → List Float → Answer → List ℤ → List Float
    → Type 0
RsiReverseCall s n upper lower exit out₀ work₀ =
    WorkCall (answered_with accepted s (upper ∷ lower ∷ exit ∷ []) (n ∷ []) (length out₀) (length work₀ ∷ []))
    (rsi_reverse_line n upper lower exit (line s)) out₀ (length s) work₀
