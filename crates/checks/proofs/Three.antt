-- The table of refusals for three series or three outputs, and what is known of three series that it let pass.
-- Assumes nothing.
use mathlib.Core.Path.{◌≡◌, refl, sym, ◌∙◌}
use mathlib.Core.Bool.{Bool, true, false, ◌&&◌}
use mathlib.Core.List.{List, [], ◌∷◌, map}
use Prim.Native.Nat.{ℕ, ◌*◌, min}
use native.Mathlib.Omega.{arith}
use borrow.Author.Tests.{leb-true, leb-false, le-leb, lt-leb, eqb-true, eq-eqb}
use lib.Dec.{leb, eqb}
use lib.ListN.{length}
use lib.Ieee.{Float}
use Rattle.values.specs.Accepted.{accepted, all}
use Rattle.values.proofs.All.{and_true}
use Rattle.calls.specs.declared.Refusal.{Refusal}
use Rattle.calls.specs.declared.Refusal.TheVariants.{
  SeriesTooLong,
  LengthsDiffer,
  OutputTooShort,
  WorkTooShort,
  ValueNotAccepted,
}
use Rattle.calls.specs.Answer.{Answer, first, unless, and_then, slices, checked}
use Rattle.std.specs.Prelude.{Ok, Err}
use Rattle.calls.proofs.Room.{unless_cells, and_then_cells, at_least}
use Rattle.checks.specs.inner.Three.{Three}
use Rattle.limits.specs.Limits.{longest_series}

-- ---- the table

unless_and : (t u : Bool) (q : Refusal) (next : Answer) → unless (t && u) q next ≡ unless t q (unless u q next)
unless_and true u q next = refl
unless_and false u q next = refl

-- three series: each length, then each of the later two against the first
pub slices_three : (a b c out : ℕ) (work : List ℕ)
    → slices (a ∷ b ∷ c ∷ []) (out ∷ []) work
    ≡ unless (leb a longest_series) SeriesTooLong
    (unless (leb b longest_series) SeriesTooLong (unless (leb c longest_series) SeriesTooLong
    (unless (eqb b a) LengthsDiffer (unless (eqb c a) LengthsDiffer
    (unless (leb a out) OutputTooShort (unless (all (λ room. leb (8 * a) room) work) WorkTooShort (Ok a)))))))
unfolding slices
slices_three a b c out work =
    rw (
      and_true (leb c longest_series),
      unless_and (leb a longest_series),
      unless_and (leb b longest_series),
      eq-eqb a a refl,
      and_true (eqb c a),
      unless_and (eqb b a),
      and_true (leb a out),
    )

leb_min : (k a b : ℕ) → leb k (min a b) ≡ leb k a && leb k b
leb_min k a b = go (leb k a) (leb k b) refl refl
  where
    go : (t u : Bool) → leb k a ≡ t → leb k b ≡ u → leb k (min a b) ≡ t && u
    go true true p q = let x = leb-true k a p in let y = leb-true k b q in le-leb k (min a b) (omega arith)
    go true false p q = let y = leb-false k b q in lt-leb k (min a b) (omega arith)
    go false u p q = let x = leb-false k a p in lt-leb k (min a b) (omega arith)

-- of three outputs the shortest decides
pub three_outputs : (ok : Float → Bool) (series : List (List Float)) (a b c : ℕ) (work : List ℕ)
    → checked ok series (a ∷ b ∷ c ∷ []) work ≡ checked ok series (min a (min b c) ∷ []) work
unfolding checked slices
three_outputs ok series a b c work =
    let l = first (map length series) in
    rw (and_true (leb l c), and_true (leb l (min a (min b c))), leb_min l a (min b c), leb_min l b c)

in_turn : (a : Answer) (p q r : Bool) (k l m : ℕ)
    → and_then a (unless (p && (q && r)) ValueNotAccepted (Ok k))
    ≡ and_then (and_then (and_then a (unless r ValueNotAccepted (Ok m))) (unless q ValueNotAccepted (Ok l)))
    (unless p ValueNotAccepted (Ok k))
in_turn (Err x) p q r k l m = refl
in_turn (Ok j) true true true k l m = refl
in_turn (Ok j) true true false k l m = refl
in_turn (Ok j) true false true k l m = refl
in_turn (Ok j) true false false k l m = refl
in_turn (Ok j) false true true k l m = refl
in_turn (Ok j) false true false k l m = refl
in_turn (Ok j) false false true k l m = refl
in_turn (Ok j) false false false k l m = refl

-- three series' values, in any order, since they give one refusal
pub checked_three : (ok : Float → Bool) (s t u : List Float) (outputs work : List ℕ)
    → checked ok (s ∷ t ∷ u ∷ []) outputs work
    ≡ and_then (and_then (and_then (slices (length s ∷ length t ∷ length u ∷ []) outputs work)
    (unless (all ok u) ValueNotAccepted (Ok (length u))))
    (unless (all ok t) ValueNotAccepted (Ok (length t))))
    (unless (all ok s) ValueNotAccepted (Ok (length s)))
unfolding checked
checked_three ok s t u outputs work =
    rw (and_true (all ok u))
    (in_turn (slices (length s ∷ length t ∷ length u ∷ []) outputs work) (all ok s) (all ok t) (all ok u) _ _ _)

-- that is so of three series that were checked, and the count is that length
pub checked_three_room : (s t u : List Float) (out : ℕ) (work : List ℕ) (k : ℕ)
    → checked accepted (s ∷ t ∷ u ∷ []) (out ∷ []) work ≡ Ok k
    → Three s t u out work × (◌≡◌ {A = Answer} (Ok (length s)) (Ok k))
checked_three_room s t u out work k e =
    let lengths = slices (length s ∷ length t ∷ length u ∷ []) (out ∷ []) work in
    let last = and_then lengths (unless (all accepted u) ValueNotAccepted (Ok (length u))) in
    let later = and_then last (unless (all accepted t) ValueNotAccepted (Ok (length t))) in
    let one = and_then_cells later _ k (sym (checked_three accepted s t u (out ∷ []) work) ∙ e) in
    let two = and_then_cells last _ _ one.0 in
    let three = and_then_cells lengths _ _ two.0 in
    let a = unless_cells (leb (length s) longest_series) _ _ _
    (sym (slices_three (length s) (length t) (length u) out work) ∙ three.0) in
    let b = unless_cells (leb (length t) longest_series) _ _ _ a.1 in
    let c = unless_cells (leb (length u) longest_series) _ _ _ b.1 in
    let second = unless_cells (eqb (length t) (length s)) _ _ _ c.1 in
    let third = unless_cells (eqb (length u) (length s)) _ _ _ second.1 in
    let room = unless_cells (leb (length s) out) _ _ _ third.1 in
    let beside = unless_cells (all (λ room. leb (8 * length s) room) work) _ _ _ room.1 in (
      record {
        values = (
          (unless_cells (all accepted s) _ _ _ one.1).0,
          (unless_cells (all accepted t) _ _ _ two.1).0,
          (unless_cells (all accepted u) _ _ _ three.1).0,
        );
        second = eqb-true _ _ second.0;
        third = eqb-true _ _ third.0;
        out_long = leb-true _ _ room.0;
        work_long = at_least (8 * length s) work beside.0;
      },
      (unless_cells (all accepted s) _ _ k one.1).1,
    )
