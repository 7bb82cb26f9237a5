-- Two rows of a slice, the highest of bar i in cell i and the lowest in cell bars + i: a part of the bars written
-- anew, from either end. Assumes nothing.
use Rattle.std.specs.Prelude.{◌≡◌, List, ℕ, ◌+◌, ◌<◌, ◌≤◌, length, Float}
use Rattle.cells.specs.Line.{line}
use Rattle.extremes.specs.declared.blocks.HighLow.{HighLow}

-- what stands in the rows at bar i
abbrev pub range_at : ℕ → List Float → ℕ → HighLow
range_at bars cells i = record { high = line cells i; low = line cells (bars + i) }

-- `now` is `old` with the ranges of bars lo to hi - 1 written, each as Q asks
pub record Replacing (bars lo hi : ℕ) (Q : ℕ → HighLow → Type 0) (old now : List Float) : Type 0 where
  pub long : length now ≡ length old
  pub inside : (i : ℕ) → (lo ≤ i) × (i < hi) → Q i (range_at bars now i)
  pub below : (i : ℕ) → i < lo → range_at bars now i ≡ range_at bars old i
  pub above : (i : ℕ) → (hi ≤ i) × (i < bars) → range_at bars now i ≡ range_at bars old i
  pub after : (i : ℕ) → bars + bars ≤ i → line now i ≡ line old i
