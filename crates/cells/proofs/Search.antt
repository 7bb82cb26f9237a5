-- Where a search ends. Assumes nothing.
use mathlib.Core.Path.{◌≡◌, refl}
use mathlib.Core.Bool.{Bool, true, false, cond, ◌&&◌}
use Prim.Native.Nat.{ℕ, zero, suc, ◌<◌, ◌≤◌, min, suc-le-suc}
use native.Mathlib.Nat.{le_refl, le_of_suc-le-suc}
use native.Mathlib.Omega.{arith}
use Rattle.cells.specs.Search.{first_bar}

pub first_bar_same : (t u : ℕ → Bool) (k : ℕ) → ((j : ℕ) → j < k → t j ≡ u j) → first_bar t k ≡ first_bar u k
unfolding first_bar
first_bar_same t u zero h = refl
first_bar_same t u (suc k) h =
    rw (h 0 (omega arith), first_bar_same (λ j. t (suc j)) (λ j. u (suc j)) k (λ j l. h (suc j) (suc-le-suc l)))

-- a bar that passes ends the search, however many bars there are
pub first_bar_met : (t : ℕ → Bool) (j k : ℕ) → t j ≡ true → j < k → first_bar t k ≡ first_bar t (suc j)
unfolding first_bar
first_bar_met t j zero e h = absurd (omega arith)
first_bar_met t zero (suc k) e h = rw e
first_bar_met t (suc j) (suc k) e h = rw (first_bar_met (λ i. t (suc i)) j k e (omega arith))

pub first_bar_most : (t : ℕ → Bool) (j : ℕ) → t j ≡ true → first_bar t (suc j) ≤ j
unfolding first_bar
first_bar_most t zero e = rw e (omega arith)
first_bar_most t (suc j) e = go (t 0) (first_bar_most (λ i. t (suc i)) j e)
  where
    go : (p : Bool) → first_bar (λ i. t (suc i)) (suc j) ≤ j
        → cond p 0 (suc (first_bar (λ i. t (suc i)) (suc j))) ≤ suc j
    go true h = omega arith
    go false h = omega arith

-- it ends at a bar, where one passes
pub first_bar_under : (t : ℕ → Bool) (j l : ℕ) → t j ≡ true → j < l → first_bar t l < l
first_bar_under t j l e h = let most = first_bar_most t j e in rw (first_bar_met t j l e h) (omega arith)

-- among fewer bars
pub first_bar_fewer : (t : ℕ → Bool) (k l : ℕ) → k ≤ l → first_bar t k ≡ min (first_bar t l) k
unfolding first_bar
first_bar_fewer t zero l h = omega arith
first_bar_fewer t (suc k) zero h = absurd (omega arith)
first_bar_fewer t (suc k) (suc l) h = go (t 0) (first_bar_fewer (λ j. t (suc j)) k l (le_of_suc-le-suc h))
  where
    go : (p : Bool) → first_bar (λ j. t (suc j)) k ≡ min (first_bar (λ j. t (suc j)) l) k
        → cond p 0 (suc (first_bar (λ j. t (suc j)) k)) ≡ min (cond p 0 (suc (first_bar (λ j. t (suc j)) l))) (suc k)
    go true e = omega arith
    go false e = omega arith

-- it ends with the bars
pub first_bar_within : (t : ℕ → Bool) (l : ℕ) → first_bar t l ≤ l
first_bar_within t l = let same = first_bar_fewer t l l (le_refl l) in omega arith

-- no bar before it passes
pub first_bar_before : (t : ℕ → Bool) (l j : ℕ) → j < first_bar t l → t j ≡ false
unfolding first_bar
first_bar_before t zero j h = absurd (omega arith)
first_bar_before t (suc l) j h = go (t 0) refl j h (first_bar_before (λ k. t (suc k)) l)
  where
    go : (p : Bool) → t 0 ≡ p → (i : ℕ) → i < cond p 0 (suc (first_bar (λ k. t (suc k)) l))
        → ((k : ℕ) → k < first_bar (λ m. t (suc m)) l → t (suc k) ≡ false)
        → t i ≡ false
    go true e i g more = absurd (omega arith)
    go false e zero g more = e
    go false e (suc i) g more = more i (le_of_suc-le-suc g)

-- with a second test it ends no earlier
pub first_bar_both : (t u : ℕ → Bool) (l : ℕ) → first_bar t l ≤ first_bar (λ j. t j && u j) l
unfolding first_bar
first_bar_both t u zero = omega arith
first_bar_both t u (suc l) = go (t 0) (u 0) (first_bar_both (λ j. t (suc j)) (λ j. u (suc j)) l)
  where
    go : (p q : Bool) → first_bar (λ j. t (suc j)) l ≤ first_bar (λ j. t (suc j) && u (suc j)) l
        → cond p 0 (suc (first_bar (λ j. t (suc j)) l))
        ≤ cond (p && q) 0 (suc (first_bar (λ j. t (suc j) && u (suc j)) l))
    go true q h = omega arith
    go false q h = omega arith

-- ---- what a loop that searches keeps

-- no bar before bar k passes
abbrev pub NoneBefore : (ℕ → Bool) → ℕ → Type 0
NoneBefore t k = (j : ℕ) → j < k → t j ≡ false

-- bar k is the first that passes
pub first_bar_found : (t : ℕ → Bool) (k l : ℕ) → NoneBefore t k → t k ≡ true → k < l → first_bar t l ≡ k
unfolding first_bar
first_bar_found t k zero none e h = absurd (omega arith)
first_bar_found t zero (suc l) none e h = rw e
first_bar_found t (suc k) (suc l) none e h =
    rw (
      none 0 (omega arith),
      first_bar_found (λ j. t (suc j)) k l (λ j m. none (suc j) (suc-le-suc m)) e (omega arith),
    )

-- none does
pub first_bar_none : (t : ℕ → Bool) (l : ℕ) → NoneBefore t l → first_bar t l ≡ l
unfolding first_bar
first_bar_none t zero none = refl
first_bar_none t (suc l) none =
    rw (none 0 (omega arith), first_bar_none (λ j. t (suc j)) l (λ j m. none (suc j) (suc-le-suc m)))
