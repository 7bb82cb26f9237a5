-- The means of one row of a slice, in another row of it. Assumes nothing.
use Rattle.std.specs.Prelude.{◌≡◌, cond, List, ℕ, ◌+◌, ◌-◌, ◌<◌, ◌≤◌, min, leb, Float}
use Rattle.cells.specs.Line.{Line, line}
use Rattle.cells.specs.Written.{Writing}
use Rattle.windows.specs.Window.{mean}
use Rattle.limits.specs.Limits.{Window}

-- the line of a row that begins at cell a
abbrev pub row_at : ℕ → List Float → Line
row_at a cells i = line cells (a + i)

-- the cells up to the second row's end: from its bar `first` on the means of n cells of the first row, and before that
-- what stood there
unfoldable pub means_of_row : ℕ → ℕ → ℕ → ℕ → List Float → Line
means_of_row from to n first old j = cond (leb (to + first) j) (mean n (row_at from old) (j - to)) (line old j)

-- one row ends before the other begins, both are inside, and at bar `first` there is a whole window, or no bar is left
pub record RowRoom (from to bars n first cells : ℕ) : Type 0 where
  pub window : Window n
  pub past_lead : min (n - 1) bars ≤ first
  pub inside : first ≤ bars
  pub apart : from + bars ≤ to
  pub room : to + bars ≤ cells

-- the means were written up to bar r, where fewer than N bars are left
pub record RowUpTo (N from to bars n first r : ℕ) (old now : List Float) : Type 0 where
  pub on : first ≤ r
  pub inside : r ≤ bars
  pub few : bars < r + N
  pub means : Writing (to + r) (means_of_row from to n first old) old now

-- the row that begins at cell `at` holds the line f from bar `first` on
pub record RowHolds (at first bars : ℕ) (f : Line) (now : List Float) : Type 0 where
  pub cell : (i : ℕ) → (first ≤ i) × (i < bars) → row_at at now i ≡ f i
