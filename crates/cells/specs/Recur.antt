-- Recurrences: a value and what each step makes of it, as a running sum or a moving average that carries its last
-- cell. Assumes nothing.
use Rattle.std.specs.Prelude.{ℕ, zero, suc, ◌+◌, ◌-◌, Float}
use Rattle.cells.specs.Line.{Line, from_bar}

module _ {A : Type 0} where
  -- a after k steps; step j makes what follows the value after j steps
  unfoldable pub recur : A → (ℕ → A → A) → ℕ → A
  recur a step zero = a
  recur a step (suc k) = step k (recur a step k)

-- A line that carries its last cell: the seed stands at bar a, each later cell is made by `step` of the last cell and
-- its own bar, and d stands before bar a.
unfoldable pub carried : Float → (Float → Float → Float) → ℕ → Float → Line → Line
carried d step a seed f = from_bar a d (λ i. recur seed (λ k last. step last (f (a + 1 + k))) (i - a))
