-- The contract of every call. `due` is the answer, f the line of the cells, r what came; 0 is at entry and 1 at exit.
-- `Float` has one NaN, so "unchanged" is said up to the bits inside a NaN. Assumes nothing.
use Rattle.std.specs.Prelude.{◌≡◌, List, ℕ, ◌*◌, Float}
use Rattle.calls.specs.Answer.{Answer, count_of, cleared_of}
use Rattle.cells.specs.Line.{plus_zero}
use Rattle.cells.specs.Written.{written}

-- one output and no work slice: with count 0 no cell changes, and the cells from the count on stay
pub record Call {A : Type 0} (due : Answer) (f : ℕ → A) (out₀ : List A) (r : Answer) (out₁ : List A) : Type 0 where
  pub answer : r ≡ due
  pub cells : out₁ ≡ written (count_of r) f out₀

-- the work slice of a call of l bars: its first 8 l cells hold +0.0 once the call is answered, and a refusal changes
-- none
abbrev pub Cleared : ℕ → List Float → Answer → List Float → Type 0
Cleared l work₀ r work₁ = work₁ ≡ written (cleared_of r (8 * l)) (λ i. plus_zero) work₀

-- one output and a work slice
pub record WorkCall {A : Type 0} (due : Answer) (f : ℕ → A) (out₀ : List A) (l : ℕ) (work₀ : List Float) (r : Answer)
    (out₁ : List A)
    (work₁ : List Float) : Type 0 where
  pub call : Call due f out₀ r out₁
  pub work : Cleared l work₀ r work₁

-- three outputs, of the lines f, g and h, and a work slice
pub record BandCall {A : Type 0} (due : Answer) (f g h : ℕ → A) (middle₀ upper₀ lower₀ : List A) (l : ℕ)
    (work₀ : List Float)
    (r : Answer) (middle₁ upper₁ lower₁ : List A) (work₁ : List Float) : Type 0 where
  pub middle : Call due f middle₀ r middle₁
  pub upper : Call due g upper₀ r upper₁
  pub lower : Call due h lower₀ r lower₁
  pub work : Cleared l work₀ r work₁
