-- The thresholds rise from 0: one test over the whole table, which is computed, and a law that reads it at one k. So
-- the largest k whose threshold is at most a size is found by looking on both sides of it. Assumes nothing.
use mathlib.Core.Path.{◌≡◌, refl, sym, ap, ◌∙◌}
use mathlib.Core.Bool.{Bool, true, false, not, cond, true≢false}
use mathlib.Core.List.{◌∷◌}
use Prim.Native.Nat.{ℕ, zero, suc, ◌+◌, ◌-◌, ◌<◌, ◌≤◌, zero-le}
use native.Mathlib.Nat.{le_refl}
use native.Mathlib.Omega.{arith}
use lib.Dec.{leb}
use borrow.Author.Tests.{leb-true, leb-false}
use lib.ListN.{length, get_or}
use lib.Ieee.{Float, nan, inf, fin, of_bits, lt, eq, le, is_nan}
use Rattle.std.specs.List.{AllWithin}
use Rattle.std.specs.List.Sorted.{IsPartitionedBy, IsPartitionPoint}
use Rattle.std.proofs.lemmas.List.{get_or_default}
use Rattle.rounding.specs.Leaves.{minus_one}
use Rattle.rounding_order.proofs.Compared.{le_is}
use Rattle.extremes.proofs.Order.{lt_between}
use Rattle.values.proofs.Rising.{rising, rising_at}
use Rattle.cells.specs.Line.{plus_zero}
use Rattle.rules_tanh.specs.Recorded.{threshold_bits}
use Rattle.rules_tanh.specs.Tanh.{thresholds, threshold_of, largest_to, steps_of}

-- ---- the table

rise_computed : rising minus_one (plus_zero ∷ thresholds) ≡ true
unfolding thresholds threshold_bits rising of_bits lt
rise_computed = refl

pub how_many : length thresholds ≡ 100
unfolding thresholds threshold_bits
how_many = refl

-- each is above the one before it, and the first above 0
pub thresholds_rise : (k : ℕ) → k < 100 → lt (threshold_of k) (threshold_of (suc k)) ≡ true
unfolding threshold_of
thresholds_rise k h =
    let more : suc k < suc (length thresholds) = omega (arith, how_many) in
    rising_at minus_one (plus_zero ∷ thresholds) rise_computed k more

-- both sides of `<` are numbers where it holds
lt_numbers : (x y : Float) → lt x y ≡ true → (is_nan x ≡ false) × (is_nan y ≡ false)
unfolding lt is_nan
lt_numbers nan y h = absurd (true≢false (sym h))
lt_numbers (inf s) nan h = absurd (true≢false (sym h))
lt_numbers (inf s) (inf t) h = (refl, refl)
lt_numbers (inf s) (fin t n d) h = (refl, refl)
lt_numbers (fin s m e) nan h = absurd (true≢false (sym h))
lt_numbers (fin s m e) (inf t) h = (refl, refl)
lt_numbers (fin s m e) (fin t n d) h = (refl, refl)

not_at_most_nan : (x y : Float) → is_nan y ≡ true → le x y ≡ false
unfolding le lt eq is_nan
not_at_most_nan nan nan n = refl
not_at_most_nan (inf s) nan n = refl
not_at_most_nan (fin s m e) nan n = refl
not_at_most_nan x (inf t) n = absurd (true≢false (sym n))
not_at_most_nan x (fin t m e) n = absurd (true≢false (sym n))

turned : (p q : Bool) → p ≡ not q → p ≡ false → q ≡ true
turned p true e h = refl
turned p false e h = absurd (true≢false (sym e ∙ h))

-- a size below one threshold is below the next
below_next : (size : Float) (k : ℕ) → k < 100 → le (threshold_of k) size ≡ false
    → le (threshold_of (suc k)) size ≡ false
below_next size k h e = go (is_nan size) refl
  where
    go : (t : Bool) → is_nan size ≡ t → le (threshold_of (suc k)) size ≡ false
    go true n = not_at_most_nan _ size n
    go false n =
        let up = thresholds_rise k h in
        let (first, second) = lt_numbers (threshold_of k) (threshold_of (suc k)) up in
        let under = turned _ (lt size (threshold_of k)) (le_is (threshold_of k) size first n) e in
        le_is (threshold_of (suc k)) size second n
        ∙ ap not (lt_between true size (threshold_of k) (threshold_of (suc k)) first under up)

-- and below all that follow, d of them after the first
below_later : (size : Float) (k d : ℕ) → k + d ≤ 100 → le (threshold_of k) size ≡ false
    → le (threshold_of (k + d)) size ≡ false
below_later size k zero h e = let same : k + 0 ≡ k = omega arith in rw same e
below_later size k (suc d) h e =
    let next : k + suc d ≡ suc (k + d) = omega arith in
    rw next (below_next size (k + d) (omega arith) (below_later size k d (omega arith) e))

-- ---- the largest that passes

pub largest_most : (n : ℕ) (test : ℕ → Bool) → largest_to n test ≤ n
unfolding largest_to
largest_most zero test = zero-le
largest_most (suc n) test = go (test (suc n)) (largest_most n test)
  where
    go : (t : Bool) → largest_to n test ≤ n → cond t (suc n) (largest_to n test) ≤ suc n
    go true h = le_refl (suc n)
    go false h = omega arith

-- it is k where k passes, unless it is 0, and none above k does
largest_at : (n : ℕ) (test : ℕ → Bool) (k : ℕ) → k ≤ n → (0 < k → test k ≡ true)
    → ((j : ℕ) → k < j → j ≤ n → test j ≡ false) → largest_to n test ≡ k
unfolding largest_to
largest_at zero test k h p q = omega arith
largest_at (suc n) test k h p q =
    go (leb (suc n) k) refl (test (suc n)) refl (λ l. largest_at n test k l p (λ j m o. q j m (omega arith)))
  where
    go : (b : Bool) → leb (suc n) k ≡ b → (t : Bool) → test (suc n) ≡ t → (k ≤ n → largest_to n test ≡ k)
        → cond t (suc n) (largest_to n test) ≡ k
    go true e true f below = omega (arith, leb-true (suc n) k e)
    go true e false f below =
        let same : k ≡ suc n = omega (arith, leb-true (suc n) k e) in
        absurd (true≢false (sym (p (omega arith)) ∙ ap test same ∙ f))
    go false e t f below =
        let less : k < suc n = omega (arith, leb-false (suc n) k e) in
        rw (sym f ∙ q (suc n) less (le_refl (suc n))) (below (omega arith))

-- where more pass it is not smaller
largest_grows : (n : ℕ) (test wider : ℕ → Bool) → ((k : ℕ) → test k ≡ true → wider k ≡ true)
    → largest_to n test ≤ largest_to n wider
unfolding largest_to
largest_grows zero test wider h = zero-le
largest_grows (suc n) test wider h = go (test (suc n)) (wider (suc n)) (h (suc n)) (largest_grows n test wider h)
  where
    go : (t u : Bool) → (t ≡ true → u ≡ true) → largest_to n test ≤ largest_to n wider
        → cond t (suc n) (largest_to n test) ≤ cond u (suc n) (largest_to n wider)
    go true true m l = le_refl (suc n)
    go true false m l = absurd (true≢false (sym (m refl)))
    go false true m l = omega (arith, largest_most n test)
    go false false m l = l

-- ---- the steps of a size

pub steps_most : (size : Float) → steps_of size ≤ 100
unfolding steps_of
steps_most size = largest_most 100 _

-- the threshold of k is at most the size, unless k is 0, and the next is not
pub steps_at : (size : Float) (k : ℕ) → k ≤ 100 → (0 < k → le (threshold_of k) size ≡ true)
    → (k < 100 → le (threshold_of (suc k)) size ≡ false) → steps_of size ≡ k
unfolding steps_of
steps_at size k h p q = largest_at 100 _ k h p above
  where
    above : (j : ℕ) → k < j → j ≤ 100 → le (threshold_of j) size ≡ false
    above j l m =
        let d : suc k + (j - suc k) ≡ j = omega arith in
        rw d at (below_later size (suc k) (j - suc k) (omega arith) (q (omega arith)))

pub steps_grow : (x y : Float) → ((k : ℕ) → le (threshold_of k) x ≡ true → le (threshold_of k) y ≡ true)
    → steps_of x ≤ steps_of y
unfolding steps_of
steps_grow x y h = largest_grows 100 _ _ h

-- ---- the search

-- no threshold that is at most a size comes after one that is not
pub in_two_parts : (size : Float) → IsPartitionedBy (λ t. le t size) thresholds
unfolding threshold_of
in_two_parts size i j d l m e = go (le (get_or thresholds i nan) size) refl
  where
    go : (t : Bool) → le (get_or thresholds i nan) size ≡ t → le (get_or thresholds i d) size ≡ true
    go true f = rw (get_or_default thresholds i d nan (omega arith)) f
    go false f =
        let same : suc i + (j - i) ≡ suc j = omega arith in
        let above = rw same at (below_later size (suc i) (j - i) (omega (arith, how_many)) f) in
        absurd (true≢false (sym e ∙ rw (get_or_default thresholds j d nan m) above))

-- so the largest k is where they part
pub found : (size : Float) (k : ℕ) → k ≤ 100
    → IsPartitionPoint (λ t. le t size ≡ true) (λ t. le t size ≡ false) thresholds k → k ≡ steps_of size
unfolding threshold_of
found size k h (under, over) =
    sym (steps_at size k h (at_most k under) (λ l. over k nan (le_refl k) (omega (arith, how_many))))
  where
    at_most : (k : ℕ) → AllWithin (λ t. le t size ≡ true) thresholds 0 k → 0 < k → le (threshold_of k) size ≡ true
    at_most zero u p = absurd (omega arith)
    at_most (suc k) u p = u k nan zero-le (le_refl (suc k))
