-- A slice of which only the first cells were used: what was written on it, and clearing it. Assumes nothing.
use mathlib.Core.Path.{◌≡◌, refl, ap, ◌∙◌}
use mathlib.Core.List.{List, [], ◌∷◌}
use Prim.Native.Nat.{ℕ, zero, suc, ◌<◌, ◌≤◌}
use native.Mathlib.Nat.{not-suc-le-zero, le_of_suc-le-suc}
use native.Mathlib.Omega.{arith}
use lib.ListN.{length, drop, set, length-set}
use lib.Seq.{drop-set-lt}
use Rattle.cells.specs.Written.{written, Writing}
use Rattle.cells.specs.inner.Touched.{Touched}
use Rattle.cells.proofs.RowWrites.{drop_written}

module _ {A : Type 0} where
  pub untouched : {k : ℕ} {s : List A} → Touched k s s
  untouched = record { rest = refl; long = refl }

  pub touched : {k : ℕ} {f : ℕ → A} {old now : List A} → Writing k f old now → Touched k old now
  touched {k} {f} {old} w = record { rest = rw w.is (drop_written k f old); long = w.long }

  -- one of the first cells is set
  pub touched_set : {k : ℕ} {old now : List A} (i : ℕ) (x : A) → Touched k old now → i < k → Touched k old (set now i x)
  touched_set {k} {now = now} i x p h = record {
    rest = drop-set-lt k now i x h ∙ p.rest;
    long = length-set now i x ∙ p.long;
  }

  pub touched_then : {k : ℕ} {a b c : List A} → Touched k a b → Touched k b c → Touched k a c
  touched_then p q = record { rest = q.rest ∙ p.rest; long = q.long ∙ p.long }

  drop_more : (j k : ℕ) (s t : List A) → j ≤ k → length s ≡ length t → drop j s ≡ drop j t → drop k s ≡ drop k t
  drop_more zero k s t h l e = ap (drop k) e
  drop_more (suc j) zero s t h l e = absurd (not-suc-le-zero h)
  drop_more (suc j) (suc k) [] [] h l e = refl
  drop_more (suc j) (suc k) [] (y ∷ t) h l e = let z : 0 ≡ suc (length t) = l in absurd (omega arith)
  drop_more (suc j) (suc k) (x ∷ s) [] h l e = let z : suc (length s) ≡ 0 = l in absurd (omega arith)
  drop_more (suc j) (suc k) (x ∷ s) (y ∷ t) h l e =
      drop_more j k s t (le_of_suc-le-suc h) (let m : suc (length s) ≡ suc (length t) = l in omega arith) e

  -- more of the first cells may have been used
  pub touched_more : {j k : ℕ} {old now : List A} → Touched j old now → j ≤ k → Touched k old now
  touched_more {j} {k} {old} {now} p h = record { rest = drop_more j k now old h p.long p.rest; long = p.long }

  over_rest : (k : ℕ) (f : ℕ → A) (s t : List A) → length s ≡ length t → drop k s ≡ drop k t → written k f s
      ≡ written k f t
  over_rest zero f s t l e = e
  over_rest (suc k) f [] [] l e = refl
  over_rest (suc k) f [] (y ∷ t) l e = let z : 0 ≡ suc (length t) = l in absurd (omega arith)
  over_rest (suc k) f (x ∷ s) [] l e = let z : suc (length s) ≡ 0 = l in absurd (omega arith)
  over_rest (suc k) f (x ∷ s) (y ∷ t) l e = ap (λ (u : List A). f 0 ∷ u)
      (over_rest k (λ i. f (suc i)) s t (let m : suc (length s) ≡ suc (length t) = l in omega arith) e)

  -- writing all of the cells that were used leaves nothing of that use
  pub written_over_all : {k : ℕ} {f : ℕ → A} {old mid now : List A} → Touched k old mid → Writing k f mid now
      → Writing k f old now
  written_over_all {k} {f} {old} {mid} p w =
      record { is = w.is ∙ over_rest k f mid old p.long p.rest; long = w.long ∙ p.long }
