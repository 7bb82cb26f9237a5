-- A rule that running sums decide where every bar is far enough from a tie. Assumes nothing.
use Rattle.std.specs.Prelude.{◌≡◌, Bool, true, List, ℕ, ◌*◌, Float}
use Rattle.cells.specs.Line.{Line}
use Rattle.cells.specs.Written.{Writing}
use Rattle.cells.specs.inner.Touched.{Touched}

-- r says that the cells of the line f are written; two rows of the work slice are used
pub record Decided (r : Bool) (f : Line) (bars : ℕ) (out₀ out₁ work₀ work₁ : List Float) : Type 0 where
  pub used : Touched bars out₀ out₁
  pub work : Touched (2 * bars) work₀ work₁
  pub cells : r ≡ true → Writing bars f out₀ out₁
