-- The table of refusals in the forms that the checks meet it, and what is known of a call that it let pass. Assumes
-- nothing.
use Rattle.std.specs.Prelude.{List, [], ◌∷◌, ℕ, ◌≤◌}

-- ---- what is known where a count was answered

-- each of the lengths is at least k
abbrev pub AtLeast : ℕ → List ℕ → Type 0
AtLeast k [] = Unit {0}
AtLeast k (room ∷ rooms) = (k ≤ room) × AtLeast k rooms
