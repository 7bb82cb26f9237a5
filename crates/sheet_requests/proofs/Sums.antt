-- The counts of the desks add up to the refused requests of all desks. Assumes nothing.
use mathlib.Core.Path.{◌≡◌, refl, sym, ◌∙◌}
use mathlib.Core.Bool.{Bool, true, false, cond, ◌&&◌}
use mathlib.Core.List.{List, [], ◌∷◌}
use Prim.Native.Nat.{ℕ, zero, suc, ◌+◌, ◌<◌, ◌≤◌}
use native.Mathlib.Nat.{zero-add, add-zero, min-eq_right}
use native.Mathlib.Omega.{arith}
use borrow.Author.Tests.{leb-true, leb-false, le-leb, lt-leb, eqb-true, eqb-false}
use lib.Dec.{leb, eqb}
use lib.ListN.{length}
use Rattle.sheet_requests.specs.Counts.{desks, most_count}
use Rattle.sheet_requests.specs.Sheet.{Complete}
use Rattle.sheet_requests.specs.ByDesk.{
  requests_of,
  only,
  of_desk,
  of_desks,
  refused_by_rule,
  refusals,
  desk_count,
  sum_of_counts,
}
use Rattle.sheet_requests.proofs.Requests.{refusals_cons}

-- no more than there are
only_few : (test : Complete → Bool) (l : List Complete) → length (only test l) ≤ length l
only_few test [] = omega arith
only_few test (q ∷ rest) = go (test q) (only_few test rest)
  where
    go : (t : Bool) → length (only test rest) ≤ length rest
        → length (cond t (q ∷ only test rest) (only test rest)) ≤ length (q ∷ rest)
    go true h = omega arith
    go false h = omega arith

-- ---- sums over the desks

sum_none : (k : ℕ) → sum_of_counts k (λ d. 0) ≡ 0
sum_none zero = refl
sum_none (suc k) = rw (sum_none k)

sum_same : (k : ℕ) (f g : ℕ → ℕ) → ((d : ℕ) → f d ≡ g d) → sum_of_counts k f ≡ sum_of_counts k g
sum_same zero f g h = refl
sum_same (suc k) f g h = rw (sum_same k f g h, h (suc k))

sum_both : (k : ℕ) (f g : ℕ → ℕ) → sum_of_counts k (λ d. f d + g d) ≡ sum_of_counts k f + sum_of_counts k g
sum_both zero f g = refl
sum_both (suc k) f g = omega (arith, sum_both k f g)

-- a desk that is not the next one
not_next : (k desk : ℕ) → eqb desk (suc k) ≡ false → leb desk (suc k) ≡ leb desk k
not_next k desk i = go (leb desk k) (leb-true _ _) (leb-false _ _)
  where
    go : (t : Bool) → (t ≡ true → desk ≤ k) → (t ≡ false → k < desk) → leb desk (suc k) ≡ t
    go true f g = let few = f refl in le-leb desk (suc k) (omega arith)
    go false f g =
        let more = g refl in
        let other = eqb-false desk (suc k) i in
        lt-leb desk (suc k) (omega arith)

-- one desk alone adds something
sum_one : (k desk : ℕ) (u : Bool)
    → sum_of_counts k (λ d. cond (eqb desk d && u) 1 0) ≡ cond ((leb 1 desk && leb desk k) && u) 1 0
sum_one zero zero u = refl
sum_one zero (suc desk) u = rw (lt-leb (suc desk) 0 (omega arith), le-leb 1 (suc desk) (omega arith))
sum_one (suc k) desk u = rw (sum_one k desk u) (go (eqb desk (suc k)) refl)
  where
    go : (e : Bool) → eqb desk (suc k) ≡ e
        → cond ((leb 1 desk && leb desk k) && u) 1 0 + cond (e && u) 1 0
        ≡ cond ((leb 1 desk && leb desk (suc k)) && u) 1 0
    go true i =
        let is = eqb-true desk (suc k) i in
        rw (lt-leb desk k (omega arith), le-leb 1 desk (omega arith), le-leb desk (suc k) (omega arith)) (zero-add _)
    go false i = rw (not_next k desk i) (add-zero _)

-- ---- the requests of the desks

all_desks : (requests : List Complete)
    → sum_of_counts desks (λ d. refusals (only (of_desk d) requests)) ≡ refusals (only of_desks requests)
all_desks [] = sum_none desks
all_desks (q ∷ rest) =
    sum_same desks _ _ (λ d. refusals_cons (of_desk d q) q (only (of_desk d) rest))
    ∙ sum_both desks (λ d. cond (of_desk d q && refused_by_rule q) 1 0) (λ d. refusals (only (of_desk d) rest))
    ∙ rw (sum_one desks q.request.desk (refused_by_rule q), all_desks rest)
    (sym (refusals_cons (of_desks q) q (only of_desks rest)))

-- where none is cut to 12 columns
pub counts_sum : (input : List ℕ) → length (requests_of input) ≤ most_count
    → sum_of_counts desks (desk_count input) ≡ refusals (only of_desks (requests_of input))
counts_sum input h =
    sum_same desks (desk_count input) (λ d. refusals (only (of_desk d) (requests_of input)))
    (λ d. min-eq_right (omega (
      arith,
      only_few refused_by_rule (only (of_desk d) (requests_of input)),
      only_few (of_desk d) (requests_of input),
    )))
    ∙ all_desks (requests_of input)
