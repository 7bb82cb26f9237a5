-- A work slice that is cleared while its last row is in use, bar by bar. Assumes nothing.
use mathlib.Core.Path.{◌≡◌, refl, sym, ap, ◌∙◌}
use mathlib.Core.Logic.{⊎_elim}
use mathlib.Core.Bool.{Bool, true, false}
use mathlib.Core.List.{List, [], ◌∷◌, ◌++◌}
use Prim.Native.Nat.{ℕ, zero, suc, ◌+◌, ◌-◌, ◌*◌, ◌<◌, ◌≤◌}
use native.Mathlib.Nat.{eq-or-lt_of_le, not-suc-le-zero, le_of_suc-le-suc}
use native.Mathlib.Omega.{arith}
use borrow.Author.Tests.{ltb-true, ltb-false}
use lib.Dec.{ltb}
use lib.ListN.{length, set, take, drop, length-set}
use lib.Seq.{get_or-set_same, get_or-set_other}
use lib.Ieee.{Float, nan}
use Rattle.cells.specs.Line.{Line, line, plus_zero}
use Rattle.cells.specs.Written.{written, Writing}
use Rattle.cells.specs.inner.Touched.{Touched}
use Rattle.cells.specs.inner.Rows.{beside}
use Rattle.cells.proofs.Written.{none_written, one_more, step, read_back, ends, stands, stood, writing_same}
use Rattle.cells.proofs.Leads.{not_yet}
use Rattle.cells.proofs.RowWrites.{beside_first, beside_second, lent_on, lent_sets}
use Rattle.cells.proofs.Touched.{untouched, touched, touched_then, touched_more, written_over_all}
use Rattle.cells.specs.inner.Scratch.{seven_cleared, put_at, Scratch}

-- ---- one store

module _ {A : Type 0} where
  -- it does not matter to cells before it
  set_after : (k p : ℕ) (f : ℕ → A) (s : List A) (x : A) → k ≤ p → set (written k f s) p x ≡ written k f (set s p x)
  set_after zero p f s x h = refl
  set_after (suc k) p f [] x h = refl
  set_after (suc k) zero f (y ∷ s) x h = absurd (not-suc-le-zero h)
  set_after (suc k) (suc p) f (y ∷ s) x h =
      ap (λ (t : List A). f 0 ∷ t) (set_after k p (λ i. f (suc i)) s x (le_of_suc-le-suc h))

  -- nor to cells after it
  drop_set : (k p : ℕ) (s : List A) (x : A) → p < k → drop k (set s p x) ≡ drop k s
  drop_set zero p s x h = absurd (not-suc-le-zero h)
  drop_set (suc k) p [] x h = refl
  drop_set (suc k) zero (y ∷ s) x h = refl
  drop_set (suc k) (suc p) (y ∷ s) x h = drop_set k p s x (le_of_suc-le-suc h)

  still_stands : {k : ℕ} {f : ℕ → A} {s : List A} (p : ℕ) (x : A) → Writing k f s s → k ≤ p
      → Writing k f (set s p x) (set s p x)
  still_stands {k} {f} {s} p x w h =
      record { is = ap (λ (t : List A). set t p x) w.is ∙ set_after k p f s x h; long = refl }

  set_touched : {k : ℕ} (s : List A) (p : ℕ) (x : A) → p < k → Touched k s (set s p x)
  set_touched {k} s p x h = record { rest = drop_set k p s x h; long = length-set s p x }

-- ---- seven cells

seven_more : {k : ℕ} {old now : List Float} → Writing k (λ i. plus_zero) old now → k + 6 < length old
    → Writing (k + 7) (λ i. plus_zero) old (seven_cleared k now)
seven_more {k} w h =
    let two = step (k + 1) (k + 2) (one_more w refl (omega arith)) refl (omega arith) in
    let four = step (k + 3) (k + 4) (step (k + 2) (k + 3) two refl (omega arith)) refl (omega arith) in
    let six = step (k + 5) (k + 6) (step (k + 4) (k + 5) four refl (omega arith)) refl (omega arith) in
    step (k + 6) (k + 7) six refl (omega arith)

-- the part from `at` on was lent, and came back with seven cells cleared
pub lent_cleared : {part : List Float} (at : ℕ) (s : List Float)
    → Writing 7 (λ i. plus_zero) (take (length s - at) (drop at s)) part → at + 7 ≤ length s
    → take at s ++ (part ++ drop (length s - at) (drop at s)) ≡ seven_cleared at s
lent_cleared at s w h = let first : at + 0 ≡ at = omega arith in rw first at (lent_sets at s w h)

-- ---- the slice

module _ {l : ℕ} {g : Line} where
  -- before the first bar
  pub unused : {work : List Float} → Scratch l 0 g work work
  unused = record { cleared = none_written; row = λ j h. absurd (not-suc-le-zero h); rest = untouched }

  -- a bar more
  pub one_put : {k : ℕ} {old now next : List Float} {x : Float} → Scratch l k g old now → x ≡ g k
      → next ≡ put_at l k x now → (k < l) × (8 * l ≤ length now) → Scratch l (k + 1) g old next
  unfolding put_at
  one_put {k} {old} {now} {x = x} s e p (h, room) =
      let at = 7 * l + k in
      let mid = set now at x in
      let long : length mid ≡ length now = length-set now at x in
      let seven = seven_more (still_stands at x s.cleared (omega arith)) (omega arith) in
      rw p (record {
        cleared = ends (stands seven) (omega arith);
        row = λ j b. not_yet (7 * l + j) seven (omega arith) ∙ stored j (omega arith);
        rest = touched_then s.rest
            (touched_then (set_touched now at x (omega arith)) (touched_more (touched seven) (omega arith)));
      })
    where
      stored : (j : ℕ) → j ≤ k → line (set now (7 * l + k) x) (7 * l + j) ≡ g j
      stored j b =
          ⊎_elim
          (λ q. rw q (get_or-set_same now (7 * l + k) x nan (omega arith) ∙ e))
          (λ q. get_or-set_other now (7 * l + k) (7 * l + j) x nan (λ r. omega arith) ∙ s.row j q)
          (eq-or-lt_of_le b)

  -- the loop is over
  pub all_put : {k n : ℕ} {old now : List Float} → Scratch l k g old now → k ≡ n → Scratch l n g old now
  all_put s e = rw (← e) s

  -- what stands there, for a stage that goes on
  pub goes_on : {k : ℕ} {old now : List Float} → Scratch l k g old now → Scratch l k g now now
  goes_on s = record { cleared = s.cleared; row = s.row; rest = untouched }

  pub then_put : {k : ℕ} {old mid now : List Float} → Touched (8 * l) old mid → Scratch l k g mid now
      → Scratch l k g old now
  then_put t s = record { cleared = s.cleared; row = s.row; rest = touched_then t s.rest }

-- the same of a line that agrees
pub scratch_same : {l k : ℕ} {f g : Line} {old now : List Float} → Scratch l k f old now
    → ((i : ℕ) → i < k → f i ≡ g i) → Scratch l k g old now
scratch_same s h = record { cleared = s.cleared; row = λ j b. s.row j b ∙ h j b; rest = s.rest }

-- ---- a cleared slice

-- the first k bars are cleared, in the last row too
pub bars_cleared : {l k : ℕ} {old mid part : List Float} → Writing (7 * k) (λ i. plus_zero) old mid
    → Writing k (λ i. plus_zero) (take (length mid - 7 * l) (drop (7 * l) mid)) part → (k ≤ l) × (8 * l ≤ length mid)
    → Scratch l k (λ i. plus_zero) old (take (7 * l) mid ++ (part ++ drop (length mid - 7 * l) (drop (7 * l) mid)))
bars_cleared {l} {k} {old} {mid} {part} v w (h, room) =
    let now = take (7 * l) mid ++ (part ++ drop (length mid - 7 * l) (drop (7 * l) mid)) in
    let own : Writing (7 * l) (line mid) mid mid = stood nan (λ i b. refl) in
    let all = lent_on own w (omega arith) in
    let first : (i : ℕ) → i < 7 * k → line now i ≡ plus_zero =
    λ i b. read_back i nan all (omega arith) ∙ beside_first (7 * l) _ _ i (omega arith)
    ∙ read_back i nan v (omega (arith, v.long)) in
    record {
      cleared = stood nan (λ i b. sym (first i b));
      row = λ j b. read_back (7 * l + j) nan all (omega arith) ∙ beside_second (7 * l) _ _ j;
      rest = touched_then (touched_more (touched v) (omega arith)) (touched_more (touched all) (omega arith));
    }

-- all bars
pub all_cleared : {l : ℕ} {old now : List Float} → Scratch l l (λ i. plus_zero) old now → 8 * l ≤ length now
    → Writing (8 * l) (λ i. plus_zero) old now
all_cleared {l} {now = now} s room = written_over_all s.rest (stood nan (λ i b. sym (each i b)))
  where
    each : (i : ℕ) → i < 8 * l → line now i ≡ plus_zero
    each i b = go (ltb i (7 * l)) refl
      where
        go : (t : Bool) → ltb i (7 * l) ≡ t → line now i ≡ plus_zero
        go true e = let h = ltb-true i (7 * l) e in read_back i nan s.cleared (omega arith)
        go false e =
            let h = ltb-false i (7 * l) e in
            let at : 7 * l + (i - 7 * l) ≡ i = omega arith in
            rw at at (s.row (i - 7 * l) (omega arith))

-- ---- the last row is cleared

beside_self : {A : Type 0} (a : ℕ) (x : A) (i : ℕ) → beside a (λ j. x) (λ j. x) i ≡ x
unfolding beside
beside_self zero x i = refl
beside_self (suc a) x zero = refl
beside_self (suc a) x (suc i) = beside_self a x i

pub last_cleared : {l : ℕ} {work part : List Float} → Writing (7 * l) (λ i. plus_zero) work work
    → Writing l (λ i. plus_zero) (take (length work - 7 * l) (drop (7 * l) work)) part → 8 * l ≤ length work
    → Writing (8 * l) (λ i. plus_zero) work
    (take (7 * l) work ++ (part ++ drop (length work - 7 * l) (drop (7 * l) work)))
last_cleared {l} v w h =
    ends (writing_same (lent_on v w (omega arith)) (λ i b. beside_self (7 * l) plus_zero i)) (omega arith)
