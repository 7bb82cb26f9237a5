-- The double rule on whole ticks, decided by a whole number. Assumes nothing.
use Rattle.std.specs.Prelude.{◌≡◌, Bool, true, ◌&&◌, List, ℕ, ◌-◌, ◌<◌, ◌≤◌, ltb, ℤ, pos, ◌+ℤ◌, ◌-ℤ◌, ◌*ℤ◌, length, Float}
use Rattle.std.specs.Float.{binary64}
use Rattle.std.specs.Float.Ieee.{of_int, to_signed}
use Rattle.rounding.specs.Whole.{total}
use Rattle.values.specs.Accepted.{tick, all}
use Rattle.calls.specs.inner.Fits.{window_fits}
use Rattle.cells.specs.Line.{Line, line}
use Rattle.cells.specs.Written.{Writing}
use Rattle.exact_ticks.proofs.Exact.{TickLine}
use Rattle.limits.specs.Limits.{Window}
use Rattle.rules_double.specs.Double.{double_line}

-- ---- the decision

-- the price of bar i as a whole number
abbrev pub ticks_of : List Float → ℕ → ℤ
ticks_of s i = to_signed 63 (line s i)

-- n · m times the short average less the long one, of the bars before bar i: m times the sum of n of them less n times
-- the sum of m
unfoldable pub spread : ℕ → ℕ → (ℕ → ℤ) → ℕ → ℤ
spread n m t i = total t (i - n) n *ℤ pos m -ℤ total t (i - m) m *ℤ pos n

-- what bar i adds to it
unfoldable pub change : ℕ → ℕ → (ℕ → ℤ) → ℕ → ℤ
change n m t i = t i *ℤ pos (m - n) -ℤ t (i - n) *ℤ pos m +ℤ t (i - m) *ℤ pos n

-- ---- the stages

-- both windows are full, in order and not too long, no length is refused, and all prices are whole ticks
unfoldable pub tick_cells : List Float → ℕ → ℕ → ℕ → Bool
tick_cells s n m output = ltb 0 n && ltb n m && window_fits (length s) m output && all tick s

-- what that says of the cells
pub record TickRoom (n m : ℕ) (s : List Float) (output : ℕ) : Type 0 where
  pub short : Window n
  pub long : Window m
  pub order : n < m
  pub full : m ≤ length s
  pub room : length s ≤ output
  pub ticks : all tick s ≡ true

-- two windows in order over the l whole ticks t of the line f, full at bar m - 1
pub record BothFull (n m l : ℕ) (f : Line) (t : ℕ → ℤ) : Type 0 where
  pub short : Window n
  pub long : Window m
  pub order : n < m
  pub full : m ≤ l
  pub ticks : TickLine l f t

-- and over those of a series
abbrev pub OverTicks : ℕ → ℕ → List Float → Type 0
OverTicks n m s = BothFull n m (length s) (line s) (ticks_of s)

-- x is the spread of the bars before bar i, whose positions stand in `now`, which has room for the rest
pub record Spread (n m : ℕ) (s : List Float) (i : ℕ) (x : Float) (now : List Float) : Type 0 where
  pub is : x ≡ of_int binary64 (spread n m (ticks_of s) i)
  pub room : length s ≤ length now
  pub before : Writing i (double_line n m (line s)) now now
