-- The tests of a basket's slices, contract by contract. Assumes nothing.
use mathlib.Core.Path.{◌≡◌, refl, sym, ap, ◌∙◌}
use mathlib.Core.Bool.{Bool, true, false, ◌&&◌}
use mathlib.Core.List.{List, [], ◌∷◌}
use Prim.Native.Nat.{ℕ, zero, suc, ◌*◌, ◌/◌, ◌%◌, ◌<◌}
use native.Mathlib.Nat.{not-suc-le-zero, div-add-mod, mul-div_cancel_left, mul-mod_right}
use native.Mathlib.Omega.{arith}
use borrow.Author.Tests.{eqb-true, eqb-false, eq-eqb, ne_eqb}
use lib.Dec.{eqb}
use lib.ListN.{length, get_or}
use Rattle.std.proofs.Common.{zero-add}
use Rattle.std.specs.List.{list_all, range_with_len}
use Rattle.std.proofs.lemmas.List.FromFn.{length-range_with_len, get_or-range_with_len}
use Rattle.values.specs.Accepted.{all}
use Rattle.values.proofs.All.{and_true, and_assoc, and_parts}
use Rattle.cells.specs.Search.{every_bar}
use Rattle.cells.specs.Shown.{first_cells}

-- ---- every contract

every_first : (t : ℕ → Bool) (k : ℕ) → every_bar t (suc k) ≡ t 0 && every_bar (λ i. t (suc i)) k
unfolding every_bar
every_first t zero = sym (and_true (t 0))
every_first t (suc k) =
    rw (every_first t k) (sym (and_assoc (t 0) (every_bar (λ i. t (suc i)) k) (t (suc k))))

-- tests that agree on the numbers below n
every_same : (t u : ℕ → Bool) (n : ℕ) → ((i : ℕ) → i < n → t i ≡ u i) → every_bar t n ≡ every_bar u n
unfolding every_bar
every_same t u zero h = refl
every_same t u (suc n) h = rw (every_same t u n (λ i l. h i (omega arith)), h n (omega arith))

-- the elements of a list, by their places
pub each_place : {A : Type 0} (p : A → Bool) (d : A) (xs : List A)
    → list_all p xs ≡ every_bar (λ i. p (get_or xs i d)) (length xs)
unfolding every_bar
each_place p d [] = refl
each_place p d (x ∷ xs) = rw (each_place p d xs) (sym (every_first (λ i. p (get_or (x ∷ xs) i d)) (length xs)))

-- the numbers below n
pub each_number : (t : ℕ → Bool) (n : ℕ) → list_all t (range_with_len 0 n) ≡ every_bar t n
each_number t n =
    each_place t 0 (range_with_len 0 n)
    ∙ rw (length-range_with_len 0 n)
    (every_same (λ i. t (get_or (range_with_len 0 n) i 0)) t n
    (λ i l. ap t (get_or-range_with_len 0 n i 0 l ∙ zero-add i)))

-- where all pass, each does
pub every_at : (t : ℕ → Bool) (n i : ℕ) → every_bar t n ≡ true → i < n → t i ≡ true
unfolding every_bar
every_at t zero i e h = absurd (not-suc-le-zero h)
every_at t (suc n) i e h = go (eqb i n) refl (and_parts (every_bar t n) (t n) e) (every_at t n i)
  where
    go : (s : Bool) → eqb i n ≡ s → (every_bar t n ≡ true) × (t n ≡ true) → (every_bar t n ≡ true → i < n → t i ≡ true)
        → t i ≡ true
    go true f (p, q) more = rw (eqb-true i n f) q
    go false f (p, q) more = let other = eqb-false i n f in more p (omega arith)

-- a test of a list's elements, by their places
pub all_first : {A : Type 0} (p : A → Bool) (f : ℕ → A) (k : ℕ) → all p (first_cells k f) ≡ every_bar (λ i. p (f i)) k
unfolding every_bar
all_first p f zero = refl
all_first p f (suc k) =
    rw (all_first p (λ i. f (suc i)) k) (sym (every_first (λ i. p (f i)) k))

-- ---- numbers

-- n makes count parts of l each
pub parts_whole : (count l n : ℕ) → 0 < count → eqb (n / count) l && eqb (n % count) 0 ≡ eqb (count * l) n
parts_whole count l n h = go (eqb (n / count) l) (eqb (n % count) 0) refl refl
  where
    go : (t u : Bool) → eqb (n / count) l ≡ t → eqb (n % count) 0 ≡ u → t && u ≡ eqb (count * l) n
    go true true p q =
        let a = eqb-true (n / count) l p in
        let b = eqb-true (n % count) 0 q in
        sym (eq-eqb (count * l) n (omega (arith, rw (a, b) at (div-add-mod n count))))
    go true false p q =
        sym (ne_eqb (count * l) n (λ e. eqb-false (n % count) 0 q (rw (sym e) (mul-mod_right count l))))
    go false u p q =
        sym (ne_eqb (count * l) n (λ e. eqb-false (n / count) l p (rw (sym e) (mul-div_cancel_left l h))))
