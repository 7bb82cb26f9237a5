-- What is known of a call of the triple rule that was answered with cells. Assumes nothing.
use mathlib.Core.Path.{◌≡◌, sym}
use mathlib.Core.Bool.{Bool, true, ◌&&◌}
use mathlib.Core.List.{List, [], ◌∷◌}
use Prim.Native.Nat.{ℕ, ◌*◌, ◌<◌, ◌≤◌}
use native.Mathlib.Omega.{arith}
use borrow.Author.Tests.{ltb-true}
use lib.Dec.{leb, ltb}
use lib.ListN.{length}
use lib.Ieee.{Float}
use Rattle.values.specs.Accepted.{accepted}
use Rattle.values.proofs.All.{and_parts}
use Rattle.calls.specs.Answer.{Answer, count_of, cleared_of, checked, windowed}
use Rattle.std.specs.Prelude.{Ok, Err}
use Rattle.calls.proofs.Call.{AllBars}
use Rattle.calls.proofs.Room.{Room, checked_room, and_then_cells, unless_cells, same_count, asked}
use Rattle.checks.specs.inner.Due.{CellsDue, Priced}
use Rattle.checks.proofs.Due.{some_due}
use Rattle.rules_triple.specs.Triple.{triple_answer}
use Rattle.rules_triple.specs.inner.Stages.{Rising}

module _ (s : List Float) (m1 m2 m3 output work k : ℕ) (e : triple_answer s m1 m2 m3 output work ≡ Ok k) where
  -- it has room for its cells
  triple_room : Room accepted s output (work ∷ [])
  unfolding triple_answer
  triple_room =
      checked_room accepted s output (work ∷ []) _
      (and_then_cells (checked accepted (s ∷ []) (output ∷ []) (work ∷ [])) _ k e).0

  -- and where there are cells to be written, windows that rise
  parts : 0 < k → Rising m1 m2 m3 × (◌≡◌ {A = Answer} (Ok (length s)) (Ok k))
  unfolding triple_answer windowed
  parts h =
      let a = and_then_cells (checked accepted (s ∷ []) (output ∷ []) (work ∷ [])) _ k e in
      let b = asked (length s) [] (m1 ∷ m2 ∷ m3 ∷ []) [] _ k a.1 h in
      let c = unless_cells (leb m3 (length s)) _ _ k b.rest in
      let d = unless_cells (ltb m1 m2 && ltb m2 m3) _ _ k c.1 in
      let order = and_parts (ltb m1 m2) (ltb m2 m3) d.0 in
      let rising : Rising m1 m2 m3 = record {
        first = b.each.0;
        second = b.each.1.0;
        third = b.each.1.1.0;
        short = ltb-true m1 m2 order.0;
        long = ltb-true m2 m3 order.1;
      } in
      (rising, d.1)

-- it has a cell for each bar
pub triple_bars : (s : List Float) (m1 m2 m3 output work : ℕ)
    → AllBars (triple_answer s m1 m2 m3 output work) (length s)
triple_bars s m1 m2 m3 output work k e h = sym (same_count _ _ (parts s m1 m2 m3 output work k e h).1)

-- its work slice has room to be cleared
pub triple_clearable : (s : List Float) (m1 m2 m3 output work : ℕ) {r : Answer} → r
    ≡ triple_answer s m1 m2 m3 output work
    → cleared_of r (8 * length s) ≤ work
triple_clearable s m1 m2 m3 output work {r = Err q} e = omega arith
triple_clearable s m1 m2 m3 output work {r = Ok k} e = (triple_room s m1 m2 m3 output work k (sym e)).work_long.0

ready : (s : List Float) (m1 m2 m3 output work : ℕ) {r : Answer} → r ≡ triple_answer s m1 m2 m3 output work
    → 0 < count_of r
    → Room accepted s output (work ∷ []) × Rising m1 m2 m3
ready s m1 m2 m3 output work {r = Ok k} e h =
    (triple_room s m1 m2 m3 output work k (sym e), (parts s m1 m2 m3 output work k (sym e) h).0)
ready s m1 m2 m3 output work {r = Err q} e h = let none : 0 < 0 = h in absurd (omega arith)

-- where its cells are due, its windows rise, its prices are accepted, and the work slice has eight rows
pub triple_priced : (s : List Float) (m1 m2 m3 output : ℕ) {r : Answer} {t : Bool} {work₀ work₁ : List Float}
    → r ≡ triple_answer s m1 m2 m3 output (length work₀) → CellsDue r (length s) t work₀ work₁ → t ≡ true
    → Priced 8 m1 s output (length work₁) × Rising m1 m2 m3
triple_priced s m1 m2 m3 output {work₀ = work₀} {work₁} e d y =
    let (facts, rising) = ready s m1 m2 m3 output (length work₀) e (some_due (rw y at d)) in
    let priced : Priced 8 m1 s output (length work₁) = record {
      window = rising.first;
      short = facts.short;
      out_long = facts.out_long;
      work_long = rw d.long facts.work_long.0;
      values = facts.values;
    } in
    (priced, rising)
