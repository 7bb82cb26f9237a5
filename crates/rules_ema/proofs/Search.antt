-- The search for the start of the exponential rule. Assumes nothing.
use mathlib.Core.Path.{◌≡◌, refl}
use mathlib.Core.Bool.{Bool, true, false, cond}
use Prim.Native.Nat.{ℕ, ◌<◌, ◌≤◌}
use native.Mathlib.Omega.{arith}
use borrow.Author.Tests.{ltb-true, lt-ltb, le-ltb}
use lib.Dec.{ltb}
use Rattle.cells.specs.Line.{Line}
use Rattle.cells.specs.Search.{first_bar, non_zero}
use Rattle.cells.proofs.Search.{first_bar_same, first_bar_found, first_bar_none, NoneBefore}
use Rattle.rules_ema.specs.SingleEma.{first_usable}

-- bar k is not 0, and the bars before it are
pub usable_found : (k l : ℕ) (f : Line) → NoneBefore (λ j. non_zero (f j)) k → non_zero (f k) ≡ true → k < l
    → first_usable l f ≡ k
unfolding first_usable
usable_found k l f none e h = rw (first_bar_found (λ j. non_zero (f j)) k l none e h, lt-ltb k l h)

-- every bar is 0
pub usable_none : (l : ℕ) (f : Line) → NoneBefore (λ j. non_zero (f j)) l → first_usable l f ≡ 0
unfolding first_usable
usable_none l f none = rw (first_bar_none (λ j. non_zero (f j)) l none, le-ltb l l (omega arith))

pub usable_same : (l : ℕ) (f g : Line) → ((j : ℕ) → j < l → f j ≡ g j) → first_usable l f ≡ first_usable l g
unfolding first_usable
usable_same l f g same =
    rw (first_bar_same (λ j. non_zero (f j)) (λ j. non_zero (g j)) l (λ j m. rw (same j m)))

inside : (j l : ℕ) (t : Bool) → ltb j l ≡ t → cond t j 0 ≤ l
inside j l true e = let h = ltb-true j l e in omega arith
inside j l false e = omega arith

pub usable_inside : (l : ℕ) (f : Line) → first_usable l f ≤ l
unfolding first_usable
usable_inside l f = inside (first_bar (λ j. non_zero (f j)) l) l _ refl
