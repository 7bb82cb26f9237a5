-- A list of numbers of which each is above the one before it, as one test that is computed over the whole list, and a
-- law that reads it at one place. Assumes nothing.
use Rattle.std.proofs.Common.{◌≡◌, ℕ, zero, suc, ◌<◌, Bool, true, ◌&&◌, List, [], ◌∷◌, length, get_or, le_of_suc-le-suc, not-suc-le-zero}
use lib.Ieee.{Float, nan, lt}
use Rattle.values.proofs.All.{and_parts}

-- each entry is above x, and above those before it
unfoldable pub rising : Float → List Float → Bool
rising x [] = true
rising x (y ∷ ys) = lt x y && rising y ys

pub rising_at : (x : Float) (xs : List Float) → rising x xs ≡ true
    → (k : ℕ) → suc k < length xs → lt (get_or xs k nan) (get_or xs (suc k) nan) ≡ true
unfolding rising
rising_at x [] e k h = absurd (not-suc-le-zero h)
rising_at x (y ∷ []) e k h = absurd (not-suc-le-zero (le_of_suc-le-suc h))
rising_at x (y ∷ z ∷ zs) e zero h = (and_parts (lt y z) (rising z zs) (and_parts (lt x y) (rising y (z ∷ zs)) e).1).0
rising_at x (y ∷ z ∷ zs) e (suc k) h = rising_at y (z ∷ zs) (and_parts (lt x y) (rising y (z ∷ zs)) e).1 k
    (le_of_suc-le-suc h)
