-- The three lines of a call, written to its three outputs. Assumes nothing.
use Rattle.std.specs.Prelude.{List, ℕ, Float}
use Rattle.cells.specs.Line.{Line}
use Rattle.cells.specs.Written.{Writing}

-- for l bars
pub record Lined (l : ℕ) (f g h : Line) (middle₀ upper₀ lower₀ middle₁ upper₁ lower₁ : List Float) : Type 0 where
  pub middle : Writing l f middle₀ middle₁
  pub upper : Writing l g upper₀ upper₁
  pub lower : Writing l h lower₀ lower₁
