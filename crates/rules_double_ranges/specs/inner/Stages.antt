-- What the functions under `double_sma_ranges` ask of each other. Assumes nothing.
use Rattle.std.specs.Prelude.{◌≡◌, Bool, true, false, List, ℕ, ◌+◌, ◌-◌, ◌<◌, ◌≤◌, ℤ, pos, length, Float}
use Rattle.std.specs.Int.Signed.{lt_z}
use Rattle.std.specs.Float.{binary64}
use Rattle.std.specs.Float.Ieee.{of_int, mul, le}
use Rattle.rounding.specs.Whole.{total}
use Rattle.cells.specs.Line.{line}
use Rattle.cells.specs.Written.{Writing}
use Rattle.limits.specs.Limits.{Window}
use Rattle.checks.proofs.Two.{Ranged}
use Rattle.rules_double.specs.inner.Ticks.{OverTicks}
use Rattle.rules_double_ranges.specs.Ranges.{ticks, ranges_line}

-- the sums at bar i of whole numbers t: of the last n bars, and of the m - n bars before them
pub record SumsAt (n m : ℕ) (t : ℕ → ℤ) (i : ℕ) (short old : Float) : Type 0 where
  pub short_is : short ≡ of_int binary64 (total t (i + 1 - n) n)
  pub old_is : old ≡ of_int binary64 (total t (i + 1 - m) (m - n))

-- the test of two such sums: m - n times the first is at least n times the second
abbrev pub wins : ℕ → ℕ → Float → Float → Bool
wins n m short old =
    le (mul binary64 old (of_int binary64 (pos n))) (mul binary64 short (of_int binary64 (pos (m - n))))

-- where the worst series gives +1, so does the best one
pub record Implies (worst best : Bool) : Type 0 where
  pub so : worst ≡ true → best ≡ true

-- at the first l bars f is not above g
abbrev pub NotAbove : (ℕ → ℤ) → (ℕ → ℤ) → ℕ → Type 0
NotAbove f g l = (i : ℕ) → i < l → lt_z (g i) (f i) ≡ false

-- two windows in order and not too long, ranges in order, and a cell for each bar
pub record RangesRoom (n m : ℕ) (low high : List Float) (output : ℕ) : Type 0 where
  pub short : Window n
  pub long : Window m
  pub order : n < m
  pub ranges : Ranged low high output

-- the same where both windows are full at bar m - 1, and the cells before it stand in `now`
pub record OverRanges (n m : ℕ) (low high : List Float) (now : List ℤ) : Type 0 where
  pub lows : OverTicks n m low
  pub highs : OverTicks n m high
  pub same : length high ≡ length low
  pub ranged : NotAbove (ticks (line low)) (ticks (line high)) (length low)
  pub room : length low ≤ length now
  pub before : Writing (m - 1) (ranges_line n m (line low) (line high)) now now
