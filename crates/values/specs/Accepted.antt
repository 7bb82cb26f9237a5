-- Which numbers a series may hold. Assumes nothing.
use Rattle.std.specs.Prelude.{ℕ, ◌^◌, Bool, true, false, not, ◌&&◌, List, [], ◌∷◌, pos, ◌==◌, to_bits, Float}
use Rattle.std.specs.Float.{nan, inf, fin, binary64}
use Rattle.std.specs.Float.Ieee.{le, whole}
use Rattle.limits.specs.Limits.{tick_power, value_power}

-- x lies from -2 ^ k to 2 ^ k. A NaN does not: IEEE's `<=` holds of none.
abbrev pub within : ℕ → Float → Bool
within k x = le (fin true 1 (pos k)) x && le x (fin false 1 (pos k))

-- Document 01's accepted value: finite, of magnitude at most 1,073,741,824 = 2 ^ 30, and not -0.0, whose only bit is
-- the sign.
unfoldable pub accepted : Float → Bool
accepted x = within value_power x && not (to_bits binary64 x == 2 ^ 63)

-- A whole tick: a whole number, not -0.0, of magnitude at most 16,777,216 = 2 ^ 24.
unfoldable pub tick : Float → Bool
tick x = within tick_power x && whole binary64 x

-- neither a NaN nor an infinity: a parameter that is not refused
unfoldable pub finite : Float → Bool
finite nan = false
finite (inf s) = false
finite (fin s m e) = true

-- every element passes
abbrev pub all : {A : Type 0} → (A → Bool) → List A → Bool
all p [] = true
all p (x ∷ xs) = p x && all p xs
