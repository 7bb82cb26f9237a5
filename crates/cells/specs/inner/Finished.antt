-- Bars that are finished: their cells are written, and their work cells are cleared. Assumes nothing.
use Rattle.std.specs.Prelude.{List, ℕ, Float}
use Rattle.cells.specs.Line.{Line, plus_zero}
use Rattle.cells.specs.Written.{Writing}
use Rattle.cells.specs.inner.Scratch.{Scratch}

-- the first k of l bars: their cells are those of f
pub record Finished (f : Line) (l k : ℕ) (out₀ out₁ work₀ work₁ : List Float) : Type 0 where
  pub cells : Writing k f out₀ out₁
  pub cleared : Scratch l k (λ i. plus_zero) work₀ work₁
