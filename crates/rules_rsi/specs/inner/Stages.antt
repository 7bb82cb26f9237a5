-- What the stages of the rule ask of each other. Assumes nothing.
use Rattle.std.specs.Prelude.{◌≡◌, cond, List, ℕ, ◌+◌, ◌*◌, ◌<◌, ◌≤◌, length, Float}
use Rattle.std.specs.Float.{binary64}
use Rattle.std.specs.Float.Ieee.{div, eq}
use Rattle.limits.specs.Limits.{Window}
use Rattle.rounding.specs.Literals.{hundred}
use Rattle.cells.specs.Line.{Line, line, plus_zero}
use Rattle.cells.specs.Written.{Writing}
use Rattle.cells.specs.inner.MoreWritten.{MoreWritten}
use Rattle.cells.specs.inner.Rows.{beside}
use Rattle.windows.specs.Window.{mean}
use Rattle.window_means.specs.inner.Row.{RowHolds}
use Rattle.changes.specs.Changes.{gains, losses, change, rsi_formula}
use Rattle.rules_rsi.specs.RsiReverse.{rsi_before}

-- ---- gains and losses in rows

-- what a function may return is g of its argument
abbrev pub Computes : (Float → Float → Type 0) → (Float → Float) → Type 0
Computes post g = (x y : Float) → post x y → y ≡ g x

-- a part of a line's changes, bar by bar
abbrev pub parts : (Float → Float) → Line → Line
parts part f i = part (change plus_zero f i)

-- the cells of a slice, with a row of a part of its changes from cell `to` on, but for its first cell
abbrev pub with_parts : (Float → Float) → ℕ → List Float → Line
with_parts part to old = beside (to + 1) (line old) (λ k. parts part (line old) (k + 1))

-- the second and the third row hold the gains and the losses of the means, but for their first cells
pub record Changed (n : ℕ) (s now : List Float) : Type 0 where
  pub room : 3 * length s ≤ length now
  pub up : RowHolds (length s) 1 (length s) (gains (mean n (line s))) now
  pub down : RowHolds (2 * length s) 1 (length s) (losses (mean n (line s))) now

-- ---- indexes

-- the index of two sums of changes, with their count as a float
abbrev pub index_by : Float → Float → Float → Float
index_by count up down =
    cond (eq down plus_zero) hundred (rsi_formula (div binary64 up count) (div binary64 down count))

-- the indexes before bar i, which is inside, stand in the first row, and the changes in the other two
pub record IndexesBefore (n : ℕ) (s : List Float) (i : ℕ) (now : List Float) : Type 0 where
  pub window : Window n
  pub inside : i < length s
  pub changes : Changed n s now
  pub indexes : Writing i (rsi_before n (mean n (line s))) now now

-- r more were written
abbrev pub MoreIndexes : ℕ → List Float → ℕ → ℕ → List Float → List Float → Type 0
MoreIndexes n s = MoreWritten (rsi_before n (mean n (line s))) (length s)
