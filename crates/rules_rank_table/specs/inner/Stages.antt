-- What the stages of `rank_table_positions` ask of each other. Assumes nothing.
use Rattle.std.specs.Prelude.{◌≡◌, Bool, true, List, ℕ, ◌+◌, ◌-◌, ◌*◌, ◌<◌, ◌≤◌, leb, ℤ, pos, ◌-ℤ◌, length, Float}
use Rattle.std.specs.Float.{binary64}
use Rattle.std.specs.Float.Ieee.{of_int}
use Rattle.limits.specs.Limits.{longest_window}
use Rattle.values.specs.Accepted.{all}
use Rattle.cells.specs.Line.{line}
use Rattle.cells.specs.Search.{every_bar}
use Rattle.cells.specs.Written.{Writing}
use Rattle.cells.specs.inner.Rows.{beside}
use Rattle.windows.specs.Window.{mean}
use Rattle.rules_rank_table.specs.Table.{Row, cover_count, is_position}
use Rattle.rules_rank_table.specs.RankTable.{table_position}
use Rattle.rules_rank_table.specs.Taken.{from_at, to_at, position_at}

-- row r, by its three numbers
abbrev pub row_at : List ℤ → ℕ → Row
row_at table r = record { from = from_at table r; to = to_at table r; position = position_at table r }

-- a row that stands alone
abbrev pub row_of : List ℤ → Row
row_of numbers = row_at numbers 0

-- of the first j numbers from -100 on, `once` says whether each is covered at most once, and `some` whether each is
-- covered
pub record Counted (rows : List Row) (j : ℕ) (once some : Bool) : Type 0 where
  pub no_two : once ≡ every_bar (λ i. leb (cover_count (pos i -ℤ pos 100) rows) 1) j
  pub no_gap : some ≡ every_bar (λ i. leb 1 (cover_count (pos i -ℤ pos 100) rows)) j

-- each position is -1, 0 or 1
pub record Known (rows : List Row) : Type 0 where
  pub each : all (λ row. is_position row.position) rows ≡ true

-- a rank that is a number: c of m means lie below
pub record Looked (c m : ℕ) : Type 0 where
  pub some : 0 < m
  pub narrow : m ≤ longest_window
  pub part : c ≤ m

-- the position for c of n - 1 means below, as f64
abbrev pub position_cell : List Row → ℕ → ℕ → Float
position_cell rows n c = of_int binary64 (table_position rows c (n - 1))

-- the means of s in one row, and beside it the position for each count of means below
pub record TableRows (n : ℕ) (rows : List Row) (s now : List Float) : Type 0 where
  pub window : 2 ≤ n
  pub narrow : n ≤ longest_window
  pub due : 2 * n - 2 < length s
  pub room : 2 * length s ≤ length now
  pub known : Known rows
  pub cells : Writing (length s + n) (beside (length s) (mean n (line s)) (position_cell rows n)) now now
