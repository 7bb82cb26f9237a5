-- A work slice that is cleared while its last row is in use. Of l bars it has eight rows of l cells; bar i has a cell
-- in the last row, and the seven cells from cell 7 i on. Assumes nothing.
use Rattle.std.specs.Prelude.{◌≡◌, List, ℕ, ◌+◌, ◌*◌, ◌<◌, set, Float}
use Rattle.cells.specs.Line.{Line, line, plus_zero}
use Rattle.cells.specs.Written.{Writing}
use Rattle.cells.specs.inner.Touched.{Touched}

-- +0.0 in the seven cells from `at` on
abbrev pub seven_cleared : ℕ → List Float → List Float
seven_cleared at work =
    let two = set (set work at plus_zero) (at + 1) plus_zero in
    let four = set (set two (at + 2) plus_zero) (at + 3) plus_zero in
    set (set (set four (at + 4) plus_zero) (at + 5) plus_zero) (at + 6) plus_zero

-- x in bar i's cell of the last row, and +0.0 in its seven cells
unfoldable pub put_at : ℕ → ℕ → Float → List Float → List Float
put_at l i x work = seven_cleared (7 * i) (set work (7 * l + i) x)

-- the first k bars are cleared, their cells in the last row hold g, and only the eight rows were used
pub record Scratch (l k : ℕ) (g : Line) (old now : List Float) : Type 0 where
  pub cleared : Writing (7 * k) (λ i. plus_zero) now now
  pub row : (j : ℕ) → j < k → line now (7 * l + j) ≡ g j
  pub rest : Touched (8 * l) old now
