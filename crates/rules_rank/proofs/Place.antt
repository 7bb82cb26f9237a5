-- The rank that `rolling_rank` counts is the place that the source finds by sorting: in any arrangement of the window's
-- values in ascending order, the first value less than 1e-8 away from the present one stands there. Assumes nothing.
use mathlib.Core.Path.{◌≡◌, refl, sym, ap, ◌∙◌}
use mathlib.Core.Bool.{Bool, true, false, not, ◌&&◌, cond, true≢false}
use mathlib.Core.List.{List, [], ◌∷◌}
use Prim.Native.Nat.{ℕ, zero, suc, ◌+◌, ◌-◌, ◌<◌, ◌≤◌}
use native.Mathlib.Nat.{add-zero}
use native.Mathlib.Omega.{arith}
use borrow.Author.Tests.{not-true}
use lib.ListN.{length}
use lib.Ieee.{Float, lt}
use lib.Ieee.Scale.{finite}
use Rattle.values.specs.Accepted.{accepted, all}
use Rattle.values.proofs.All.{and_parts, all_at}
use Rattle.extremes.proofs.Order.{lt_between}
use Rattle.cells.specs.Line.{Line, line}
use Rattle.cells.proofs.Line.{from_bar_lem}
use Rattle.ranks.specs.Counted.{count_from}
use Rattle.rules_rank.specs.RollingRank.{near, well_below, rolling_rank_line}
use Rattle.rules_rank.specs.Sorted.{
  cells_from,
  Rearranged,
  none,
  keep,
  swap,
  then,
  ascending,
  next,
  place_of,
}
use Rattle.rounding_order.proofs.Outward.{lt_self}
use Rattle.rounding_order.proofs.Compared.{either_way}
use Rattle.rounding_order.proofs.Enclosed.{neither_way}
use Rattle.values.proofs.Numbers.{accepted_finite}
use Rattle.rules_rank.proofs.Distances.{number, below_with, first_near}

-- how many pass
abbrev pub count_in : (Float → Bool) → List Float → ℕ
count_in test [] = 0
count_in test (x ∷ s) = cond (test x) (suc (count_in test s)) (count_in test s)

-- ---- counts

swapped : (p q : Bool) (c : ℕ)
    → cond p (suc (cond q (suc c) c)) (cond q (suc c) c) ≡ cond q (suc (cond p (suc c) c)) (cond p (suc c) c)
swapped true true c = refl
swapped true false c = refl
swapped false true c = refl
swapped false false c = refl

-- an arrangement has as many that pass
pub count_arranged : (test : Float → Bool) {s t : List Float} → Rearranged s t → count_in test s ≡ count_in test t
count_arranged test none = refl
count_arranged test (keep x p) = rw (count_arranged test p)
count_arranged test (swap x y s) = swapped (test x) (test y) (count_in test s)
count_arranged test (then p q) = count_arranged test p ∙ count_arranged test q

-- counted from the other end
count_first : (test : Float → Bool) (f : Line) (a k : ℕ)
    → count_from test f a (suc k) ≡ cond (test (f a)) (suc (count_from test f (suc a) k)) (count_from test f (suc a) k)
unfolding count_from
count_first test f a zero = rw add-zero
count_first test f a (suc k) =
    let e : a + suc k ≡ suc a + k = omega arith in rw (count_first test f a k, e)
    (swapped (test (f (suc a + k))) (test (f a)) (count_from test f (suc a) k))

count_window : (test : Float → Bool) (f : Line) (a k : ℕ) → count_from test f a k ≡ count_in test (cells_from f a k)
unfolding count_from
count_window test f a zero = refl
count_window test f a (suc k) = count_first test f a k ∙ rw (count_window test f (suc a) k)

ascending_rest : (x : Float) (s : List Float) → ascending (x ∷ s) ≡ true → ascending s ≡ true
ascending_rest x [] A = refl
ascending_rest x (y ∷ s) A = (and_parts (not (lt y x)) _ A).1

-- none of the later values is below the first
least_of : (x y : Float) (s : List Float) → finite y ≡ true → lt y x ≡ false → all (λ u. not (lt u y)) s ≡ true
    → all (λ u. not (lt u x)) s ≡ true
least_of x y [] Y e A = refl
least_of x y (u ∷ s) Y e A =
    let a = and_parts (not (lt u y)) _ A in
    rw (lt_between false u y x (number y Y) (not-true _ a.0) e) (least_of x y s Y e a.1)

least_first : (x : Float) (s : List Float) → all finite (x ∷ s) ≡ true → ascending (x ∷ s) ≡ true
    → all (λ y. not (lt y x)) s ≡ true
least_first x [] F A = refl
least_first x (y ∷ s) F A =
    let f = and_parts (finite x) (all finite (y ∷ s)) F in
    let a = and_parts (not (lt y x)) (ascending (y ∷ s)) A in
    let Y = (and_parts (finite y) (all finite s) f.1).0 in
    rw (not-true (lt y x) a.0) (least_of x y s Y (not-true (lt y x) a.0) (least_first y s f.1 a.1))

-- equal to v as numbers
abbrev equals : Float → Float → Bool
equals v x = not (lt x v) && not (lt v x)

-- ---- lists of numbers in ascending order

module _ (v : Float) (z : finite v ≡ true) where
  none_after : (x : Float) (s : List Float) → finite x ≡ true → all finite s ≡ true → all (λ y. not (lt y x)) s ≡ true
      → well_below v x ≡ false
      → count_in (well_below v) s ≡ 0
  none_after x [] X F A h = refl
  none_after x (y ∷ s) X F A h =
      let f = and_parts (finite y) (all finite s) F in
      let a = and_parts (not (lt y x)) _ A in
      let below = below_with v z x y X f.0 (not-true (lt y x) a.0) in
      let no : well_below v y ≡ false = neither_way _ (λ w. true≢false (sym (below w) ∙ h)) in
      rw no (none_after x s X f.1 a.1 h)

  not_above : (x : Float) (s : List Float) → all finite s ≡ true → all (λ y. not (lt y x)) s ≡ true
      → 0 < count_in (equals v) s → lt v x ≡ false
  not_above x [] F A h = absurd (omega arith)
  not_above x (y ∷ s) F A h =
      go (equals v y) refl h (λ k. not_above x s (and_parts (finite y) _ F).1 (and_parts (not (lt y x)) _ A).1 k)
    where
      go : (p : Bool) → equals v y ≡ p → 0 < cond p (suc (count_in (equals v) s)) (count_in (equals v) s)
          → (0 < count_in (equals v) s → lt v x ≡ false)
          → lt v x ≡ false
      go true e h later =
          lt_between false v y x (number y (and_parts (finite y) (all finite s) F).0)
          (not-true (lt v y) (and_parts (not (lt y v)) (not (lt v y)) e).1)
          (not-true (lt y x) (and_parts (not (lt y x)) (all (λ u. not (lt u x)) s) A).0)
      go false e h later = later h

  -- the place of the first near value, where one of the values is v
  place_is : (s : List Float) → all finite s ≡ true → ascending s ≡ true → 0 < count_in (equals v) s
      → place_of (near v) s ≡ suc (count_in (well_below v) s)
  place_is [] F A h = absurd (omega arith)
  place_is (x ∷ s) F A h = go (well_below v x) refl (λ k. place_is s f.1 (ascending_rest x s A) k)
    where
      f : (finite x ≡ true) × (all finite s ≡ true)
      f = and_parts (finite x) (all finite s) F

      go : (p : Bool) → well_below v x ≡ p
          → (0 < count_in (equals v) s → place_of (near v) s ≡ suc (count_in (well_below v) s))
          → cond (near v x) 1 (next (place_of (near v) s))
          ≡ suc (cond p (suc (count_in (well_below v) s)) (count_in (well_below v) s))
      go true e later =
          let parts = and_parts (lt x v) (not (near v x)) e in
          let unequal : equals v x ≡ false = rw parts.0 in
          let some : 0 < count_in (equals v) s = rw unequal at h in
          rw (not-true (near v x) parts.1, later some)
      go false e later =
          let first = least_first x s F A in
          let here : lt v x ≡ false = not_above x (x ∷ s) F (rw (lt_self x) first) h in
          rw (first_near v z x f.0 here e, none_after x s f.0 f.1 first e)

-- ---- the rank

-- where every value passes, none fails, and the other way round
none_fails : (test : Float → Bool) (s : List Float) → all test s ≡ true → count_in (λ x. not (test x)) s ≡ 0
none_fails test [] e = refl
none_fails test (x ∷ s) e =
    let parts = and_parts (test x) (all test s) e in rw parts.0 (none_fails test s parts.1)

all_pass : (test : Float → Bool) (s : List Float) → count_in (λ x. not (test x)) s ≡ 0 → all test s ≡ true
all_pass test [] e = refl
all_pass test (x ∷ s) e = go (test x) e (all_pass test s)
  where
    go : (p : Bool) → cond (not p) (suc (count_in (λ x. not (test x)) s)) (count_in (λ x. not (test x)) s) ≡ 0
        → (count_in (λ x. not (test x)) s ≡ 0 → all test s ≡ true) → p && all test s ≡ true
    go true e later = later e
    go false e later = absurd (omega arith)

module _ (k : ℕ) (f : Line) (i : ℕ) (h : k ≤ i) where
  -- the last cell of the window is that of bar i
  last_counts : (test : Float → Bool) → test (f i) ≡ true → 0 < count_in test (cells_from f (i - k) (suc k))
  unfolding count_from
  last_counts test e =
      let last : i - k + k ≡ i = omega arith in
      let many : count_from test f (i - k) (suc k) ≡ suc (count_from test f (i - k) k) = rw (last, e) in
      omega (arith, sym (count_window test f (i - k) (suc k)) ∙ many)

  last_finite : all finite (cells_from f (i - k) (suc k)) ≡ true → finite (f i) ≡ true
  last_finite F = either_way _ (λ e. none (last_counts (λ x. not (finite x)) (rw e)))
    where
      none : 0 < count_in (λ x. not (finite x)) (cells_from f (i - k) (suc k)) → ⊥
      none l = omega (arith, none_fails finite (cells_from f (i - k) (suc k)) F)

  -- In any arrangement of the window's values in ascending order, the rank is the place of the first value near the
  -- present one.
  pub rank_is_place : (s : List Float) → Rearranged (cells_from f (i - k) (suc k)) s → ascending s ≡ true
      → all finite (cells_from f (i - k) (suc k)) ≡ true → rolling_rank_line (suc k) f i ≡ place_of (near (f i)) s
  unfolding rolling_rank_line
  rank_is_place s p a F =
      let none = none_fails finite (cells_from f (i - k) (suc k)) F in
      let numbers : all finite s ≡ true = all_pass finite s (sym (count_arranged _ p) ∙ none) in
      let here = last_counts (equals (f i)) (rw (lt_self (f i))) in
      let some : 0 < count_in (equals (f i)) s = rw (← count_arranged (equals (f i)) p) here in
      from_bar_lem k 0 _ i h
      ∙ ap suc (count_window (well_below (f i)) f (i - k) (suc k) ∙ count_arranged (well_below (f i)) p)
      ∙ sym (place_is (f i) (last_finite F) s numbers a some)

-- ---- of an accepted series

window_finite : (s : List Float) (a k : ℕ) → all accepted s ≡ true → a + k ≤ length s
    → all finite (cells_from (line s) a k) ≡ true
window_finite s a zero e h = refl
window_finite s a (suc k) e h =
    rw (accepted_finite (line s a) (all_at accepted s a e (omega arith))) (window_finite s (suc a) k e (omega arith))

-- The rank at bar i of an accepted series is that place, however its window of k + 1 bars is put in ascending order.
pub accepted_rank_is_place : (s t : List Float) (k i : ℕ) → all accepted s ≡ true → k ≤ i → i < length s
    → Rearranged (cells_from (line s) (i - k) (suc k)) t → ascending t ≡ true
    → rolling_rank_line (suc k) (line s) i ≡ place_of (near (line s i)) t
accepted_rank_is_place s t k i e h l p a =
    rank_is_place k (line s) i h t p a (window_finite s (i - k) (suc k) e (omega arith))
