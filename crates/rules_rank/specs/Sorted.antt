-- Places in a sorted window. Assumes nothing.
use Rattle.std.specs.Prelude.{Bool, true, not, ◌&&◌, cond, List, [], ◌∷◌, ℕ, zero, suc, Float}
use Rattle.std.specs.Float.Ieee.{lt}
use Rattle.cells.specs.Line.{Line}

-- the cells f a, f (a + 1), .., f (a + k - 1)
abbrev pub cells_from : Line → ℕ → ℕ → List Float
cells_from f a zero = []
cells_from f a (suc k) = f a ∷ cells_from f (suc a) k

-- the same values, in another order
pub data Rearranged : List Float → List Float → Type 0 where
  none : Rearranged [] []
  keep : (x : Float) {s t : List Float} → Rearranged s t → Rearranged (x ∷ s) (x ∷ t)
  swap : (x y : Float) (s : List Float) → Rearranged (x ∷ y ∷ s) (y ∷ x ∷ s)
  then : {s t u : List Float} → Rearranged s t → Rearranged t u → Rearranged s u

-- no value stands right after a larger one
abbrev pub ascending : List Float → Bool
ascending [] = true
ascending (x ∷ []) = true
ascending (x ∷ y ∷ s) = not (lt y x) && ascending (y ∷ s)

-- the place, from 1, of the first value that passes; 0 where none does
abbrev pub next : ℕ → ℕ
next zero = 0
next (suc k) = suc (suc k)

abbrev pub place_of : (Float → Bool) → List Float → ℕ
place_of test [] = 0
place_of test (x ∷ s) = cond (test x) 1 (next (place_of test s))
