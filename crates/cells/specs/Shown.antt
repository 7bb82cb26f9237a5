-- What the computed cases share: numbers and prices in whole numbers, f64 by their bits, and the first cells of a line.
-- Assumes nothing.
use Rattle.std.specs.Prelude.{List, [], ◌∷◌, map, ℕ, zero, suc, ℤ, pos, length, Float}
use Rattle.std.specs.Float.{binary64}
use Rattle.std.specs.Float.Ieee.{of_int, of_bits}
use Rattle.cells.specs.Line.{Line, line}

abbrev pub num : ℕ → Float
num k = of_int binary64 (pos k)

abbrev pub prices : List ℤ → List Float
prices = map (of_int binary64)

abbrev pub bits : List ℕ → List Float
bits = map (of_bits binary64)

-- the first k cells of a line
abbrev pub first_cells : {A : Type 0} → ℕ → (ℕ → A) → List A
first_cells zero f = []
first_cells (suc k) f = f 0 ∷ first_cells k (λ i. f (suc i))

-- as many cells of an operator's line as the series has bars
abbrev pub cells_of : {A : Type 0} → (Line → ℕ → A) → List Float → List A
cells_of F s = first_cells (length s) (F (line s))
