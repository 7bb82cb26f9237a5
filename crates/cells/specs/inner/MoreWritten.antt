-- A loop that writes a few cells with each turn. Assumes nothing.
use Rattle.std.specs.Prelude.{List, ℕ, ◌+◌, ◌<◌, ◌≤◌}
use Rattle.cells.specs.Written.{Writing}

-- of the cells of f for `bars` bars, the first i and r more are written
pub record MoreWritten {A : Type 0} (f : ℕ → A) (bars i r : ℕ) (old now : List A) : Type 0 where
  pub some : 0 < r
  pub inside : i + r ≤ bars
  pub cells : Writing (i + r) f old now
