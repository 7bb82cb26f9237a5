-- The searches of a pass, and its cells, as the loops find them. Assumes nothing.
use mathlib.Core.Path.{◌≡◌, refl, sym, ◌∙◌}
use mathlib.Core.Bool.{Bool, true, false, not}
use mathlib.Core.List.{List}
use Prim.Native.Nat.{ℕ, suc, ◌+◌, ◌-◌, ◌<◌, ◌≤◌, min}
use native.Mathlib.Omega.{arith}
use borrow.Author.Tests.{ltb-true, ltb-false, leb-true, le-leb}
use lib.Dec.{ltb, leb}
use lib.ListN.{length}
use lib.Ieee.{Float, nan, eq}
use Rattle.cells.specs.Line.{Line, line}
use Rattle.cells.specs.Recur.{carried}
use Rattle.cells.specs.Search.{first_bar}
use Rattle.cells.proofs.Line.{before_bar}
use Rattle.cells.proofs.Recur.{recur_same}
use Rattle.cells.proofs.Carried.{from_same, carried_seed, carried_next}
use Rattle.cells.proofs.Written.{read_back, stood}
use Rattle.cells.specs.Written.{Writing}
use Rattle.cells.proofs.Search.{first_bar_same, first_bar_fewer, first_bar_before, first_bar_both}
use Rattle.averages.specs.Blend.{blend}
use Rattle.jurik.specs.Jurik.{averaged, copied, first_differing, all_same}
use Rattle.jurik.specs.inner.Passes.{differs, tested}

-- ---- numbers

not_not : (t : Bool) → not (not t) ≡ t
not_not true = refl
not_not false = refl

-- ---- searches

module _ (valid : Float → Bool) (l : ℕ) (f : Line) where
  -- the first that differs does not come before the first that is valid
  pub differing_later : first_bar (λ j. valid (f j)) l ≤ first_differing valid l f
  unfolding first_differing
  differing_later =
      first_bar_both (λ j. valid (f j)) (λ j. not (eq (f j) (f (first_bar (λ k. valid (f k)) l)))) l

  -- no value is valid
  pub none_taken : first_bar (λ j. valid (f j)) l ≡ l → all_same valid l f ≡ true
  none_taken e = le-leb l (first_differing valid l f) (let later = differing_later in omega arith)

  -- as it is searched for
  pub differing_is : {a : ℕ} → a ≡ first_bar (λ j. valid (f j)) l
      → first_bar (λ j. differs valid (f a) (f j)) l ≡ first_differing valid l f
  unfolding first_differing
  differing_is e = rw e

  -- r says whether one differs from the first valid value
  pub others_differ : {a : ℕ} {r : Bool} (t : Bool) → a ≡ first_bar (λ j. valid (f j)) l
      → r ≡ not (leb l (first_bar (λ j. differs valid (f a) (f j)) l)) → r ≡ t
      → all_same valid l f ≡ not t
  others_differ t e p q =
      rw (← q, p, differing_is e) (sym (not_not (leb l (first_differing valid l f))))

-- lines that agree below l
pub differing_same : (valid : Float → Bool) (l : ℕ) (f g : Line) → ((j : ℕ) → j < l → f j ≡ g j)
    → first_differing valid l f ≡ first_differing valid l g
unfolding first_differing
differing_same valid l f g h =
    let firsts = first_bar_same (λ j. valid (f j)) (λ j. valid (g j)) l (λ j m. rw (h j m)) in
    rw firsts (first_bar_same _ _ l (λ j m. go j m (ltb a l) refl))
  where
    a : ℕ
    a = first_bar (λ j. valid (g j)) l

    go : (j : ℕ) → j < l → (t : Bool) → ltb a l ≡ t → differs valid (f a) (f j) ≡ differs valid (g a) (g j)
    go j m true e = rw (h j m, h a (ltb-true a l e))
    go j m false e =
        let none = first_bar_before (λ i. valid (g i)) l j (let k = ltb-false a l e in omega arith) in
        rw (h j m, none)

-- whether bar k of l is found, by the test of its number
pub one_differs : {k l i : ℕ} → k ≡ i → i < l → true ≡ not (leb l k)
one_differs {k} {l} e h = go (leb l k) refl
  where
    go : (t : Bool) → leb l k ≡ t → true ≡ not t
    go true p = let m = leb-true l k p in absurd (omega arith)
    go false p = refl

pub none_differs : {k l : ℕ} → k ≡ l → false ≡ not (leb l k)
none_differs {k} {l} e = let p = le-leb l k (omega arith) in rw p

-- ---- the cells

-- the average needs only the bars from its first on
pub carried_from : (d : Float) (step : Float → Float → Float) (a : ℕ) (f g : Line) (i : ℕ)
    → ((j : ℕ) → a ≤ j → j ≤ i → f j ≡ g j) → carried d step a (f a) f i ≡ carried d step a (g a) g i
unfolding carried
carried_from d step a f g i h =
    from_same a d _ _ i
    (λ l. recur_same (f a) (g a) _ _ (i - a) (h a (omega arith) l)
    (λ j x m. rw (h (a + 1 + j) (omega arith) (omega arith))))

module _ (d : Float) (step : Float → Float → Float) (a : ℕ) where
  -- the cells before it, and its first cell, which stands there
  pub seed_carried : {old now : List Float} → Writing a (λ i. d) old now → a < length old
      → Writing (a + 1) (carried d step a (line now a) (line now)) now now
  unfolding carried
  seed_carried {old} {now} w h = stood nan (λ i l. go i (omega arith) (ltb i a) refl)
    where
      go : (i : ℕ) → i ≤ a → (t : Bool) → ltb i a ≡ t
          → carried d step a (line now a) (line now) i ≡ line now i
      go i l true p =
          let m = ltb-true i a p in
          before_bar a d _ i m ∙ sym (read_back i nan w (m, omega arith))
      go i l false p =
          let m = ltb-false i a p in
          let here : i ≡ a = omega arith in
          rw here (carried_seed d step a (line now a) (line now))

  -- the next cell
  pub next_carried : (seed : Float) (f : Line) (i : ℕ) {x m y : Float} → x ≡ carried d step a seed f (i - 1) → m ≡ f i
      → y ≡ step x m → a < i → y ≡ carried d step a seed f i
  next_carried seed f i p q e h = e ∙ rw (p, q) (sym (carried_next d step a seed f i h))

module _ (valid : Float → Bool) (none alpha : Float) (l : ℕ) (f : Line) where
  -- the average of l bars from the first valid one
  pub averaged_is : (a : ℕ) → a ≡ first_bar (λ j. valid (f j)) l → (i : ℕ) → i < l
      → carried none (blend alpha) a (f a) f i ≡ averaged valid none alpha f i
  unfolding averaged carried
  averaged_is a e i h = go (ltb i a) refl
    where
      b : ℕ
      b = first_bar (λ j. valid (f j)) (suc i)

      first : b ≡ min a (suc i)
      first = rw e (first_bar_fewer (λ j. valid (f j)) (suc i) l h)

      go : (t : Bool) → ltb i a ≡ t → carried none (blend alpha) a (f a) f i ≡ carried none (blend alpha) b (f b) f i
      go true p =
          let m = ltb-true i a p in
          let k = first in
          before_bar a none _ i m ∙ sym (before_bar b none _ i (omega arith))
      go false p =
          let m = ltb-false i a p in
          let k = first in
          let same : b ≡ a = omega arith in
          rw same

  -- the pass, where values differ, and where they do not
  pub tested_averages : {a : ℕ} → a ≡ first_bar (λ j. valid (f j)) l → all_same valid l f ≡ false → (i : ℕ)
      → i < l
      → carried none (blend alpha) a (f a) f i ≡ tested valid none alpha l f i
  tested_averages {a} e t i h = rw t (averaged_is a e i h)

  pub tested_copies : all_same valid l f ≡ true → (i : ℕ) → copied valid none f i
      ≡ tested valid none alpha l f i
  tested_copies t i = rw t
