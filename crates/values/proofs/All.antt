-- Tests of every element of a list, and of two tests together. Assumes nothing.
use Rattle.std.proofs.Common.{◌≡◌, ℕ, zero, suc, ◌<◌, ◌↔◌, Bool, true, false, ◌&&◌, IsTrue, List, [], ◌∷◌, length, get_or, sym, refl, true≢false, le_of_suc-le-suc, not-suc-le-zero, zero-lt-suc, arith}
use lib.Ieee.{Float, nan}
use Rattle.values.specs.Accepted.{all}

pub and_true : (t : Bool) → t && true ≡ t
and_true true = refl
and_true false = refl

pub and_assoc : (a b c : Bool) → a && (b && c) ≡ a && b && c
and_assoc true b c = refl
and_assoc false b c = refl

pub and_turns : (a b c d : Bool) → a && b && (c && d) ≡ a && c && (b && d)
and_turns true true c d = refl
and_turns true false true d = refl
and_turns true false false d = refl
and_turns false b c d = refl

pub and_parts : (t u : Bool) → t && u ≡ true → (t ≡ true) × (u ≡ true)
and_parts true u e = (refl, e)
and_parts false u e = absurd (true≢false (sym e))

module _ {A : Type 0} (d : A) (p : A → Bool) where
  -- where every element passes, each does
  pub each_of_all : (s : List A) (i : ℕ) → all p s ≡ true → i < length s → p (get_or s i d) ≡ true
  each_of_all [] i e h = absurd (not-suc-le-zero h)
  each_of_all (x ∷ s) zero e h = (and_parts (p x) (all p s) e).0
  each_of_all (x ∷ s) (suc i) e h = each_of_all s i (and_parts (p x) (all p s) e).1 (le_of_suc-le-suc h)

  -- where each passes, all do
  pub all_of_each : (s : List A) → ((i : ℕ) → i < length s → p (get_or s i d) ≡ true) → all p s ≡ true
  all_of_each [] h = refl
  all_of_each (x ∷ s) h = rw (h zero (zero-lt-suc (length s)), all_of_each s (λ i l. h (suc i) (omega arith)))

  -- a test that is passed where each passes
  pub all_passed : (s : List A) (t : Bool) → IsTrue t ↔ ((i : ℕ) → i < length s → p (get_or s i d) ≡ true)
      → t ≡ all p s
  all_passed s true h = sym (all_of_each s (h.0 refl))
  all_passed s false h = none (all p s) refl
    where
      none : (u : Bool) → all p s ≡ u → false ≡ all p s
      none true e = absurd (true≢false (sym (h.1 (λ i l. each_of_all s i e l))))
      none false e = sym e

-- the same of prices
pub all_at : (p : Float → Bool) (s : List Float) (i : ℕ) → all p s ≡ true → i < length s → p (get_or s i nan) ≡ true
all_at = each_of_all nan

pub all_of : (p : Float → Bool) (s : List Float) → ((i : ℕ) → i < length s → p (get_or s i nan) ≡ true) → all p s ≡ true
all_of = all_of_each nan

pub all_tested : (p : Float → Bool) (s : List Float) (t : Bool)
    → IsTrue t ↔ ((i : ℕ) → i < length s → p (get_or s i nan) ≡ true) → t ≡ all p s
all_tested = all_passed nan

-- where two tests agree on every element, they agree on all
pub all_same : (p q : Float → Bool) (s : List Float)
    → ((i : ℕ) → i < length s → p (get_or s i nan) ≡ q (get_or s i nan)) → all p s ≡ all q s
all_same p q [] h = refl
all_same p q (x ∷ s) h = rw (h zero (zero-lt-suc (length s)), all_same p q s (λ i l. h (suc i) (omega arith)))
