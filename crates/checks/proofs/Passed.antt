-- A call whose check is followed by the rest of the table: what is known where it is answered. Assumes nothing.
use mathlib.Core.Path.{◌≡◌, sym}
use mathlib.Core.List.{List, [], ◌∷◌}
use Prim.Native.Nat.{ℕ, ◌*◌, ◌<◌, ◌≤◌}
use native.Mathlib.Omega.{arith}
use lib.ListN.{length}
use lib.Ieee.{Float}
use Rattle.values.specs.Accepted.{accepted}
use Rattle.calls.specs.Answer.{Answer, count_of, cleared_of, and_then, checked}
use Rattle.std.specs.Prelude.{Ok, Err}
use Rattle.calls.proofs.Room.{Room, checked_room, and_then_cells}
use Rattle.checks.specs.inner.Three.{Three}
use Rattle.checks.proofs.Three.{checked_three_room}

-- the check passed, and the rest has the cells
pub passed : (check next : Answer) {r : Answer} → r ≡ and_then check next → 0 < count_of r
    → (check ≡ Ok (count_of check)) × (next ≡ Ok (count_of r))
passed check next {r = Ok k} e h = and_then_cells check next k (sym e)
passed check next {r = Err q} e h = let none : 0 < 0 = h in absurd (omega arith)

-- where a check that passed leaves room, the work slice can be cleared
passed_clearable : (check next : Answer) (l : ℕ) {work : ℕ} {r : Answer} → r ≡ and_then check next
    → ((k : ℕ) → check ≡ Ok k → 8 * l ≤ work) → cleared_of r (8 * l) ≤ work
passed_clearable check next l {r = Ok k} e room = room _ (and_then_cells check next k (sym e)).0
passed_clearable check next l {r = Err q} e room = omega arith

-- one series
module _ (s : List Float) (out work : ℕ) (next : Answer) {r : Answer}
    (e : r ≡ and_then (checked accepted (s ∷ []) (out ∷ []) (work ∷ [])) next) where
  pub one_passed : 0 < count_of r → Room accepted s out (work ∷ []) × (next ≡ Ok (count_of r))
  one_passed h =
      let p = passed (checked accepted (s ∷ []) (out ∷ []) (work ∷ [])) next e h in
      (checked_room accepted s out (work ∷ []) _ p.0, p.1)

  pub one_clearable : cleared_of r (8 * length s) ≤ work
  one_clearable =
      passed_clearable (checked accepted (s ∷ []) (out ∷ []) (work ∷ [])) next (length s) e
      (λ k p. (checked_room accepted s out (work ∷ []) k p).work_long.0)

-- three series
module _ (s t u : List Float) (out work : ℕ) (next : Answer) {r : Answer}
    (e : r ≡ and_then (checked accepted (s ∷ t ∷ u ∷ []) (out ∷ []) (work ∷ [])) next) where
  pub three_passed : 0 < count_of r → Three s t u out (work ∷ []) × (next ≡ Ok (count_of r))
  three_passed h =
      let p = passed (checked accepted (s ∷ t ∷ u ∷ []) (out ∷ []) (work ∷ [])) next e h in
      ((checked_three_room s t u out (work ∷ []) _ p.0).0, p.1)

  pub three_clearable : cleared_of r (8 * length s) ≤ work
  three_clearable =
      passed_clearable (checked accepted (s ∷ t ∷ u ∷ []) (out ∷ []) (work ∷ [])) next (length s) e
      (λ k p. (checked_three_room s t u out (work ∷ []) k p).0.work_long.0)
