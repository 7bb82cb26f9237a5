-- A position that is held: a flat one opens, a long or a short one only closes. Assumes nothing.
use Rattle.std.specs.Prelude.{Bool, false, cond, ℕ, zero, suc, ℤ, pos, negsuc}
use Rattle.cells.specs.Recur.{recur}

abbrev pub flat : ℤ
flat = pos 0

abbrev pub long : ℤ
long = pos 1

abbrev pub short : ℤ
short = negsuc 0

-- what a bar says: the position that a flat one opens, and whether a long one and a short one close
pub record Signal : Type 0 where
  pub opens : ℤ
  pub closes_long : Bool
  pub closes_short : Bool

-- a bar that says nothing
abbrev pub silent : Signal
silent = record { opens = flat; closes_long = false; closes_short = false }

-- the position after a bar, from the one before it
unfoldable pub moved : ℤ → Signal → ℤ
moved (pos zero) s = s.opens
moved (pos (suc k)) s = cond s.closes_long flat (pos (suc k))
moved (negsuc k) s = cond s.closes_short flat (negsuc k)

-- the position at bar i: flat before bar 0, and moved by each bar up to bar i
unfoldable pub hold : (ℕ → Signal) → ℕ → ℤ
hold s i = recur flat (λ j position. moved position (s j)) (suc i)
