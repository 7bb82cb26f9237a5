-- The table of refusals for a low and a high of whole ticks at each bar, and what is known where it let them pass.
-- Assumes nothing.
use mathlib.Core.Path.{◌≡◌, refl, sym, ◌∙◌}
use mathlib.Core.Bool.{Bool, true, false, ◌&&◌}
use mathlib.Core.List.{List, [], ◌∷◌}
use Prim.Native.Nat.{ℕ, zero, suc, ◌<◌, ◌≤◌, min}
use native.Mathlib.Omega.{arith}
use borrow.Author.Tests.{leb-true, ltb-true, ltb-false, eqb-true, eq-eqb}
use lib.Dec.{leb, ltb, eqb}
use lib.ListN.{length}
use lib.Ieee.{Float, le}
use Rattle.limits.specs.Limits.{longest_series}
use Rattle.values.specs.Accepted.{tick, all}
use Rattle.values.proofs.All.{and_true, and_parts}
use Rattle.calls.specs.declared.Refusal.TheVariants.{
  SeriesTooLong,
  LengthsDiffer,
  OutputTooShort,
  ValueNotAccepted,
  LowAboveHigh,
}
use Rattle.calls.specs.Answer.{Answer, unless, and_then, slices, checked, in_order, ranged}
use Rattle.std.specs.Prelude.{Ok, Err}
use Rattle.calls.proofs.Room.{unless_cells, and_then_cells}
use Rattle.cells.specs.Line.{Line, line}
use Rattle.cells.specs.Search.{every_bar}

-- ---- the table

pub slices_two : (a b out : ℕ)
    → slices (a ∷ b ∷ []) (out ∷ []) []
    ≡ unless (leb a longest_series && leb b longest_series) SeriesTooLong
    (unless (eqb b a) LengthsDiffer (unless (leb a out) OutputTooShort (Ok a)))
unfolding slices
slices_two a b out =
    rw (and_true (leb b longest_series), eq-eqb a a refl, and_true (eqb b a), and_true (leb a out))

in_turn : (a : Answer) (p q : Bool) (k l : ℕ)
    → and_then a (unless (p && q) ValueNotAccepted (Ok k))
    ≡ and_then (and_then a (unless q ValueNotAccepted (Ok l))) (unless p ValueNotAccepted (Ok k))
in_turn (Err x) p q k l = refl
in_turn (Ok j) true true k l = refl
in_turn (Ok j) true false k l = refl
in_turn (Ok j) false true k l = refl
in_turn (Ok j) false false k l = refl

-- two series' values, in either order, since they give one refusal
pub checked_two : (s t : List Float) (out : ℕ)
    → checked tick (s ∷ t ∷ []) (out ∷ []) []
    ≡ and_then (and_then (slices (length s ∷ length t ∷ []) (out ∷ []) [])
    (unless (all tick t) ValueNotAccepted (Ok (length t))))
    (unless (all tick s) ValueNotAccepted (Ok (length s)))
unfolding checked
checked_two s t out =
    rw (and_true (all tick t))
    (in_turn (slices (length s ∷ length t ∷ []) (out ∷ []) []) (all tick s) (all tick t) _ _)

-- ---- what is known where a count was answered

-- two series of whole ticks of one length, and an output that has room for it
record Two (s t : List Float) (out : ℕ) : Type 0 where
  same : length t ≡ length s
  room : length s ≤ out
  ones : all tick s ≡ true
  others : all tick t ≡ true

two : (s t : List Float) (out k : ℕ) → checked tick (s ∷ t ∷ []) (out ∷ []) [] ≡ Ok k → Two s t out
two s t out k e =
    let lengths = slices (length s ∷ length t ∷ []) (out ∷ []) [] in
    let a = and_then_cells (and_then lengths (unless (all tick t) ValueNotAccepted (Ok (length t)))) _ k
    (sym (checked_two s t out) ∙ e) in
    let b = and_then_cells lengths _ _ a.0 in
    let c = unless_cells (leb (length s) longest_series && leb (length t) longest_series) _ _ _
    (sym (slices_two (length s) (length t) out) ∙ b.0) in
    let d = unless_cells (eqb (length t) (length s)) _ _ _ c.1 in
    record {
      same = eqb-true _ _ d.0;
      room = leb-true _ _ (unless_cells (leb (length s) out) _ _ _ d.1).0;
      ones = (unless_cells (all tick s) _ _ _ a.1).0;
      others = (unless_cells (all tick t) _ _ _ b.1).0;
    }

-- the bars that both series have are all bars, where the lengths were not refused
pub ranged_both : (low high : List Float) (out : ℕ)
    → and_then (checked tick (low ∷ high ∷ []) (out ∷ []) [])
    (unless (in_order (line low) (line high) (min (length low) (length high))) LowAboveHigh (Ok (length low)))
    ≡ ranged low high out
unfolding ranged
ranged_both low high out = go (checked tick (low ∷ high ∷ []) (out ∷ []) []) refl
  where
    go : (a : Answer) → checked tick (low ∷ high ∷ []) (out ∷ []) [] ≡ a
        → and_then a (unless (in_order (line low) (line high) (min (length low) (length high))) LowAboveHigh
        (Ok (length low)))
        ≡ and_then a (unless (in_order (line low) (line high) (length low)) LowAboveHigh (Ok (length low)))
    go (Err p) e = refl
    go (Ok k) e =
        let same = (two low high out k e).same in
        let bars : min (length low) (length high) ≡ length low = omega arith in
        rw bars

-- a low and a high of whole ticks for each bar, no low above its high, and an output that has room
pub record Ranged (low high : List Float) (out : ℕ) : Type 0 where
  pub same : length high ≡ length low
  pub room : length low ≤ out
  pub lows : all tick low ≡ true
  pub highs : all tick high ≡ true
  pub order : in_order (line low) (line high) (length low) ≡ true

pub ranged_room : (low high : List Float) (out k : ℕ) → ranged low high out ≡ Ok k → Ranged low high out
unfolding ranged
ranged_room low high out k e =
    let a = and_then_cells (checked tick (low ∷ high ∷ []) (out ∷ []) []) _ k e in
    let t = two low high out _ a.0 in
    record {
      same = t.same;
      room = t.room;
      lows = t.ones;
      highs = t.others;
      order = (unless_cells (in_order (line low) (line high) (length low)) _ _ k a.1).0;
    }

-- ---- every bar

-- where the first k bars are in order, so is each of them
pub in_order_at : (low high : Line) (k : ℕ) → in_order low high k ≡ true → (i : ℕ) → i < k → le (low i) (high i) ≡ true
unfolding in_order every_bar
in_order_at low high zero e i h = absurd (omega arith)
in_order_at low high (suc k) e i h = go (ltb i k) refl (in_order_at low high k both.0 i)
  where
    both : (in_order low high k ≡ true) × (le (low k) (high k) ≡ true)
    both = and_parts (in_order low high k) (le (low k) (high k)) e

    go : (t : Bool) → ltb i k ≡ t → (i < k → le (low i) (high i) ≡ true) → le (low i) (high i) ≡ true
    go true p before = before (ltb-true i k p)
    go false p before =
        let l = ltb-false i k p in
        let same : i ≡ k = omega arith in
        rw same both.1
