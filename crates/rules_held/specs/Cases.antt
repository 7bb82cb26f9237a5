-- Held positions, computed from the definition. Assumes nothing.
use Rattle.std.specs.Prelude.{◌≡◌, refl, true, List, [], ◌∷◌, ℕ, zero, suc}
use Rattle.cells.specs.Recur.{recur}
use Rattle.cells.specs.Shown.{first_cells}
use Rattle.rules_held.specs.Held.{flat, long, short, Signal, silent, moved, hold}

-- bars that open long and short, where both kinds of position would close
abbrev up : Signal
up = record { opens = long; closes_long = true; closes_short = true }

abbrev down : Signal
down = record { opens = short; closes_long = true; closes_short = true }

-- a list of signals as a line, silent after its end
abbrev signals : List Signal → ℕ → Signal
signals [] i = silent
signals (s ∷ rest) zero = s
signals (s ∷ rest) (suc i) = signals rest i

-- a position stays open where nothing is said; it closes before the other one opens; and what closes opens nothing at
-- its own bar
held_cases : first_cells 4 (hold (signals (up ∷ silent ∷ down ∷ down ∷ [])))
    ∷ first_cells 3 (hold (signals (down ∷ down ∷ down ∷ [])))
    ∷ []
    ≡ (long ∷ long ∷ flat ∷ short ∷ []) ∷ (short ∷ flat ∷ short ∷ []) ∷ []
unfolding hold recur moved
held_cases = refl
