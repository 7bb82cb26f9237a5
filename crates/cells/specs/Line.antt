-- Lines. A line has a cell for every bar, counted from 0: a series is one, and so is what a call computes of it. An
-- operator on lines is causal if no cell needs anything after its own bar; what is built of causal operators is
-- causal. Assumes nothing.
use Rattle.std.specs.Prelude.{◌≡◌, true, false, cond, List, ℕ, ◌≤◌, leb, pos, get_or, Float}
use Rattle.std.specs.Float.{nan, fin}

abbrev pub Line : Type 0
Line = ℕ → Float

-- a series as a line
abbrev pub line : List Float → Line
line s i = get_or s i nan

abbrev pub plus_zero : Float
plus_zero = fin false 0 (pos 0)

abbrev pub minus_zero : Float
minus_zero = fin true 0 (pos 0)

module _ {A : Type 0} where
  -- f from bar b on, and d before it
  unfoldable pub from_bar : ℕ → A → (ℕ → A) → ℕ → A
  from_bar b d f i = cond (leb b i) (f i) d

  -- f and g agree up to bar b
  abbrev pub Same : (ℕ → A) → (ℕ → A) → ℕ → Type 0
  Same f g b = (j : ℕ) → j ≤ b → f j ≡ g j

-- a cell of F f needs nothing of f after its own bar
abbrev pub Causal : {A B : Type 0} → ((ℕ → A) → ℕ → B) → Type 0
Causal {A} F = (f g : ℕ → A) (b : ℕ) → Same f g b → F f b ≡ F g b
