-- A contract's own call, whatever room it has: its answer and its cells are those of the basket. Assumes nothing.
use mathlib.Core.Path.{◌≡◌, refl}
use mathlib.Core.Bool.{Bool, true, false, cond, ◌&&◌}
use mathlib.Core.List.{List, [], ◌∷◌}
use Prim.Native.Nat.{ℕ, zero, suc, ◌*◌, ◌<◌, ◌≤◌}
use native.Mathlib.Omega.{arith}
use borrow.Author.Tests.{le-leb, lt-ltb, le-ltb, ne_eqb}
use lib.Dec.{leb, eqb}
use lib.IntN.{pos}
use lib.ListN.{length}
use lib.Ieee.{Float}
use Rattle.values.specs.Accepted.{accepted, all}
use Rattle.calls.specs.Answer.{Answer, and_then, checked, answered}
use Rattle.std.specs.Prelude.{Ok}
use Rattle.calls.proofs.Room.{checked_one, slices_one, checked_room, and_then_cells, room, all_bars}
use Rattle.rules_double.specs.Double.{double_answer}
use Rattle.rules_double.proofs.Open.{double_room, double_bars}
use Rattle.rules.specs.Position.{whole_position}
use Rattle.basket.specs.Basket.{Contract, own_answer, own_line, position_of}

-- a count stands in any call that has room
roomy : (s : List Float) (next : Answer) (out : ℕ) (work work' : List ℕ) (k : ℕ)
    → all (λ room. leb (8 * length s) room) work' ≡ true
    → and_then (checked accepted (s ∷ []) (out ∷ []) work) next ≡ Ok k
    → and_then (checked accepted (s ∷ []) (length s ∷ []) work') next ≡ Ok k
roomy s next out work work' k enough e =
    let passed = and_then_cells (checked accepted (s ∷ []) (out ∷ []) work) next k e in
    let room = checked_room accepted s out work _ passed.0 in
    rw (
      checked_one accepted s (length s ∷ []) work',
      slices_one (length s) (length s) work',
      le-leb _ _ room.short,
      le-leb (length s) (length s) (omega arith),
      enough,
      room.values,
    )
    passed.1

-- cells for all bars, or none
few : (k out : ℕ) {l : ℕ} → (0 < k → k ≡ l) → l ≤ out → k ≤ out
few zero out whole h = omega arith
few (suc k) out whole h = let all = whole (omega arith) in omega arith

module _ (c : Contract) (out k : ℕ) where
  -- one average, or the middle
  pub afresh_own : (work : ℕ) → (c.rule ≡ 2 → ⊥) → answered accepted c.prices (c.n ∷ []) out (work ∷ []) ≡ Ok k
      → (own_answer c ≡ Ok k) × (k ≤ out)
  unfolding own_answer answered
  afresh_own work f e =
      let s = c.prices in
      let eight = 8 * length s in
      let enough : leb eight eight && true ≡ true = rw (le-leb eight eight (omega arith)) in
      let own = roomy s _ out (work ∷ []) (eight ∷ []) k enough e in (
        (rw (ne_eqb c.rule 2 f) (go (eqb c.rule 1) own)),
        few k out (all_bars accepted s (c.n ∷ []) out (work ∷ []) k e)
            (room accepted s (c.n ∷ []) out (work ∷ []) k e).out_long,
      )
    where
      go : (t : Bool) {x y : Answer} → x ≡ y → cond t x x ≡ y
      go true e = e
      go false e = e

  pub double_own : c.rule ≡ 2 → double_answer c.prices c.n c.m out ≡ Ok k
      → (own_answer c ≡ Ok k) × (k ≤ out)
  unfolding own_answer double_answer
  double_own f e = (
    (rw f (roomy c.prices _ out [] [] k refl e)),
    few k out (double_bars c.prices c.n c.m out k e)
        (double_room c.prices c.n c.m out k e).out_long,
  )

-- ---- positions, below the count and from it on

module _ (c : Contract) {k : ℕ} (e : own_answer c ≡ Ok k) (j : ℕ) where
  pub position_below : j < k → position_of c j ≡ whole_position (own_line c j)
  unfolding position_of
  position_below h = rw (e, lt-ltb j k h)

  pub position_after_lem : k ≤ j → position_of c j ≡ pos 0
  unfolding position_of
  position_after_lem h = rw (e, le-ltb j k h)
