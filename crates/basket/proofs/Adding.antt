-- Cells added to a row, and to a group's row and the last. Assumes nothing.
use mathlib.Core.Path.{◌≡◌, refl, sym, ap, ◌∙◌}
use mathlib.Core.Bool.{Bool, true, false, cond, ◌&&◌, ◌||◌}
use mathlib.Core.List.{List}
use Prim.Native.Nat.{ℕ, ◌+◌, ◌-◌, ◌*◌, ◌<◌, ◌≤◌}
use native.Mathlib.Nat.{not-suc-le-zero, mul-le-mul_right}
use native.Mathlib.Omega.{arith}
use borrow.Author.Tests.{ltb-true, ltb-false, leb-true, leb-false, eqb-true, eqb-false, lt-ltb, le-ltb, le-leb, lt-leb}
use lib.Dec.{leb, ltb, eqb}
use lib.IntN.{ℤ, pos, nat_abs, ◌+ℤ◌, +ℤ_idr}
use lib.ListN.{length, get_or, take, set}
use lib.Seq.{get_or-set_same, get_or-set_other, get_or-take, get_or-drop, take-set-le}
use Rattle.values.proofs.All.{and_parts}
use Rattle.cells.specs.inner.Touched.{Touched}
use Rattle.cells.proofs.Touched.{untouched, touched_set, touched_then, touched_more}
use Rattle.basket.specs.Basket.{groups, rows}
use Rattle.basket.specs.inner.Adding.{RowRoom, Added, cell_at, Light, between, RowsAdded, BarsRoom}

-- ---- cells that stay

pub rest_at : {A : Type 0} (d : A) {k : ℕ} {old now : List A} (i : ℕ) → Touched k old now → k ≤ i
    → get_or now i d ≡ get_or old i d
rest_at d {k} {old} {now} i w h =
    let at : i ≡ k + (i - k) = omega arith in
    rw at (sym (get_or-drop k now (i - k) d) ∙ ap (λ (s : List _). get_or s (i - k) d) w.rest ∙ get_or-drop k old
    (i - k) d)

before_at : {A : Type 0} (d : A) (a : ℕ) (old now : List A) (i : ℕ) → take a now ≡ take a old → i < a
    → get_or now i d ≡ get_or old i d
before_at d a old now i e h =
    sym (get_or-take a now i d h) ∙ ap (λ (s : List _). get_or s i d) e ∙ get_or-take a old i d h

-- ---- one row

module _ {a : ℕ} {x : ℕ → ℤ} {old : List ℤ} where
  pub none_added : Added a 0 x old old
  none_added = record { inside = λ j h. absurd (not-suc-le-zero h); before = refl; rest = untouched }

  -- the next cell is as it was
  pub not_added : {k : ℕ} {now : List ℤ} → Added a k x old now → get_or now (a + k) (pos 0) ≡ get_or old (a + k) (pos 0)
  not_added {k} w = rest_at (pos 0) (a + k) w.rest (omega arith)

  -- and so it is small enough
  pub still_small : {k most : ℕ} {now : List ℤ} → Added a k x old now → nat_abs (get_or old (a + k) (pos 0)) ≤ most
      → nat_abs (get_or now (a + k) (pos 0)) ≤ most
  still_small w h = rw (not_added w) h

  -- one cell more
  pub one_added : {k : ℕ} {now : List ℤ} {y : ℤ} → Added a k x old now → y ≡ get_or now (a + k) (pos 0) +ℤ x k
      → a + k < length old → Added a (k + 1) x old (set now (a + k) y)
  one_added {k} {now} {y} w e h =
      record {
        inside = λ j l. go j l (ltb j k) refl;
        before = take-set-le a now (a + k) y (omega arith) ∙ w.before;
        rest = touched_set (a + k) y (touched_more w.rest (omega arith)) (omega arith);
      }
    where
      go : (j : ℕ) → j < k + 1 → (t : Bool) → ltb j k ≡ t
          → get_or (set now (a + k) y) (a + j) (pos 0) ≡ get_or old (a + j) (pos 0) +ℤ x j
      go j l true f =
          let less = ltb-true j k f in
          get_or-set_other now (a + k) (a + j) y (pos 0) (λ (p : a + j ≡ a + k). omega arith) ∙ w.inside j less
      go j l false f =
          let most = ltb-false j k f in
          let same : j ≡ k = omega arith in
          rw same
          (get_or-set_same now (a + k) y (pos 0) (let long = w.rest.long in omega arith) ∙ e
          ∙ ap (λ (z : ℤ). z +ℤ x k) (not_added w))

  -- the loop is over
  pub all_added : {k n : ℕ} {now : List ℤ} → Added a k x old now → k ≡ n → Added a n x old now
  all_added w e = rw (← e) w

-- ---- a row of an output

module _ (l p b e : ℕ) {x : ℕ → ℤ} {old now : List ℤ} (w : Added (p * l + b) (e - b) x old now) (o : b ≤ e) (u : e ≤ l)
  where
    in_row : (j : ℕ) → b ≤ j → j < e → cell_at l now p j ≡ cell_at l old p j +ℤ x (j - b)
    in_row j h k =
        let at : p * l + j ≡ p * l + b + (j - b) = omega arith in
        rw at (w.inside (j - b) (omega arith))

    off_row : (r j : ℕ) → j < l → (r ≡ p → between b e j ≡ false) → cell_at l now r j ≡ cell_at l old r j
    off_row r j h f = go (ltb r p) (ltb p r) refl refl
      where
        here : r ≡ p → (t : Bool) → leb b j ≡ t → t && ltb j e ≡ false → cell_at l now r j ≡ cell_at l old r j
        here s true g n =
            let late = ltb-false j e n in
            rw s (rest_at (pos 0) (p * l + j) w.rest (omega arith))
        here s false g n =
            let early = leb-false b j g in
            rw s (before_at (pos 0) (p * l + b) old now (p * l + j) w.before (omega arith))

        go : (s t : Bool) → ltb r p ≡ s → ltb p r ≡ t → cell_at l now r j ≡ cell_at l old r j
        go true t g n =
            let above = mul-le-mul_right l (ltb-true r p g) in
            before_at (pos 0) (p * l + b) old now (r * l + j) w.before (omega arith)
        go false true g n =
            let below = mul-le-mul_right l (ltb-true p r n) in
            rest_at (pos 0) (r * l + j) w.rest (omega arith)
        go false false g n =
            let most = ltb-false r p g in
            let least = ltb-false p r n in
            let same : r ≡ p = omega arith in
            here same (leb b j) refl (f same)

    row_cell_lem : (r j : ℕ) → j < l
        → cell_at l now r j ≡ cell_at l old r j +ℤ cond (eqb r p && between b e j) (x (j - b)) (pos 0)
    row_cell_lem r j h = go (eqb r p) (between b e j) refl refl
      where
        go : (t v : Bool) → eqb r p ≡ t → between b e j ≡ v
            → cell_at l now r j ≡ cell_at l old r j +ℤ cond (t && v) (x (j - b)) (pos 0)
        go true true f g =
            let parts = and_parts (leb b j) (ltb j e) g in
            rw (eqb-true r p f) (in_row j (leb-true b j parts.0) (ltb-true j e parts.1))
        go true false f g = off_row r j h (λ s. g) ∙ sym (+ℤ_idr (cell_at l old r j))
        go false v f g = off_row r j h (λ s. absurd (eqb-false r p f s)) ∙ sym (+ℤ_idr (cell_at l old r j))

-- ---- a group's row and the last

-- what is added counts only where it is reached
cond_at : (t v : Bool) (x y : ℤ) → (v ≡ true → x ≡ y) → cond (t && v) x (pos 0) ≡ cond (t && v) y (pos 0)
cond_at true true x y h = h refl
cond_at true false x y h = refl
cond_at false v x y h = refl

-- two rows that are not the same
join : (s t v : Bool) (c m n x : ℤ) → (s ≡ true → t ≡ true → ⊥) → m ≡ c +ℤ cond (s && v) x (pos 0)
    → n ≡ m +ℤ cond (t && v) x (pos 0) → n ≡ c +ℤ cond ((s || t) && v) x (pos 0)
join true true v c m n x f p q = absurd (f refl refl)
join true false v c m n x f p q = q ∙ +ℤ_idr m ∙ p
join false t v c m n x f p q = q ∙ ap (λ (z : ℤ). z +ℤ cond (t && v) x (pos 0)) (p ∙ +ℤ_idr c)

pub two_rows : {l q b e : ℕ} {x y : ℕ → ℤ} {old mid now : List ℤ} → Added (q * l + b) (e - b) x old mid
    → Added (groups * l + b) (e - b) x mid now → (q < groups) × (b ≤ e) × (e ≤ l)
    → ((j : ℕ) → b ≤ j → j < e → x (j - b) ≡ y j) → RowsAdded l q b e y old now
two_rows {l} {q} {b} {e} {x} {y} {old} {mid} {now} v w (row, o, u) same =
    record {
      cells = λ r j h k.
          join (eqb r q) (eqb r groups) (between b e j) (cell_at l old r j) (cell_at l mid r j) (cell_at l now r j)
          (y j)
          (apart r)
          (row_cell_lem l q b e v o u r j k ∙ ap (λ (z : ℤ). cell_at l old r j +ℤ z)
          (cond_at (eqb r q) (between b e j) _ _
          (reach j)))
          (row_cell_lem l groups b e w o u r j k
          ∙ ap (λ (z : ℤ). cell_at l mid r j +ℤ z) (cond_at (eqb r groups) (between b e j) _ _ (reach j)));
      rest =
          touched_then
          (touched_more v.rest (let most = mul-le-mul_right l row in omega arith))
          (touched_more w.rest (omega arith));
    }
  where
    apart : (r : ℕ) → eqb r q ≡ true → eqb r groups ≡ true → ⊥
    apart r f g =
        let one = eqb-true r q f in
        let other = eqb-true r groups g in
        omega arith

    reach : (j : ℕ) → between b e j ≡ true → x (j - b) ≡ y j
    reach j f =
        let parts = and_parts (leb b j) (ltb j e) f in
        same j (leb-true b j parts.0) (ltb-true j e parts.1)

-- a cell that is not reached
unreached : (t v : Bool) (c x : ℤ) → v ≡ false → c +ℤ cond (t && v) x (pos 0) ≡ c
unreached true true c x f = absurd (let z : ◌≡◌ {A = ℕ} 0 1 = cc in omega arith)
unreached true false c x f = +ℤ_idr c
unreached false v c x f = +ℤ_idr c

-- no bar before bar 0
none_between : (j : ℕ) → between 0 0 j ≡ false
none_between j = rw (le-leb 0 j (omega arith), le-ltb j 0 (omega arith))

pub no_rows : {l q : ℕ} {x : ℕ → ℤ} {s : List ℤ} → RowsAdded l q 0 0 x s s
no_rows {l} {q} {x} {s} =
    record {
      cells = λ r j h k. sym (unreached (eqb r q || eqb r groups) (between 0 0 j) (cell_at l s r j) (x j)
          (none_between j));
      rest = untouched;
    }

-- bars from a on, and then bars from b on
meet : (t : Bool) (a b e j : ℕ) (c m n x : ℤ) → (a ≤ b) × (b ≤ e) → m ≡ c +ℤ cond (t && between a b j) x (pos 0)
    → n ≡ m +ℤ cond (t && between b e j) x (pos 0) → n ≡ c +ℤ cond (t && between a e j) x (pos 0)
meet false a b e j c m n x o p q = q ∙ +ℤ_idr m ∙ p
meet true a b e j c m n x o p q = go (ltb j b) refl
  where
    go : (s : Bool) → ltb j b ≡ s → n ≡ c +ℤ cond (between a e j) x (pos 0)
    go true f =
        let early = ltb-true j b f in
        let later : leb b j ≡ false = lt-leb b j early in
        let inside : ltb j e ≡ true = lt-ltb j e (omega arith) in
        rw inside ((rw later at q) ∙ +ℤ_idr m ∙ (rw f at p))
    go false f =
        let late = ltb-false j b f in
        let from : leb a j ≡ true = le-leb a j (omega arith) in
        let on : leb b j ≡ true = le-leb b j late in
        rw from
        ((rw on at q) ∙ ap (λ (z : ℤ). z +ℤ cond (ltb j e) x (pos 0)) ((rw (from, f) at p) ∙ +ℤ_idr c))

module _ {l q a b e : ℕ} {x : ℕ → ℤ} {old mid now : List ℤ} where
  pub then_rows : RowsAdded l q a b x old mid → RowsAdded l q b e x mid now → (a ≤ b) × (b ≤ e)
      → RowsAdded l q a e x old now
  then_rows v w o =
      record {
        cells = λ r j h k.
            meet (eqb r q || eqb r groups) a b e j (cell_at l old r j) (cell_at l mid r j) (cell_at l now r j) (x j) o
            (v.cells r j h k) (w.cells r j h k);
        rest = touched_then v.rest w.rest;
      }

module _ {l q a b : ℕ} {x : ℕ → ℤ} {old now : List ℤ} (w : RowsAdded l q a b x old now) where
  -- of a line that agrees where it is reached
  pub rows_same : {y : ℕ → ℤ} → ((j : ℕ) → a ≤ j → j < b → x j ≡ y j) → RowsAdded l q a b y old now
  rows_same {y} same =
      record {
        cells = λ r j h k.
            w.cells r j h k
            ∙ ap (λ (z : ℤ). cell_at l old r j +ℤ z)
            (cond_at (eqb r q || eqb r groups) (between a b j) (x j) (y j) (λ f.
            let parts = and_parts (leb a j) (ltb j b) f in
            same j (leb-true a j parts.0) (ltb-true j b parts.1)));
        rest = w.rest;
      }

  -- the cells after them are as they were
  pub light_later : Light l a old → a ≤ b → Light l b now
  light_later s o =
      record {
        cells = λ r j h from k.
            let none : between a b j ≡ false = rw (le-ltb j b from, le-leb a j (omega arith)) in
            rw (w.cells r j h k, unreached (eqb r q || eqb r groups) (between a b j) (cell_at l old r j) (x j) none)
            (s.cells r j h (omega arith) k);
      }

-- a line that is 0 after the bars that are added
pub rows_to_end : {l q e : ℕ} {x y : ℕ → ℤ} {old now : List ℤ} → RowsAdded l q 0 e x old now
    → ((j : ℕ) → j < e → x j ≡ y j) → ((j : ℕ) → e ≤ j → j < l → y j ≡ pos 0) → RowsAdded l q 0 l y old now
rows_to_end {l} {q} {e} {x} {y} {old} {now} w same flat =
    record { cells = λ r j h k. w.cells r j h k ∙ go r j k (ltb j e) refl; rest = w.rest }
  where
    go : (r j : ℕ) → j < l → (t : Bool) → ltb j e ≡ t
        → cell_at l old r j +ℤ cond ((eqb r q || eqb r groups) && between 0 e j) (x j) (pos 0)
        ≡ cell_at l old r j +ℤ cond ((eqb r q || eqb r groups) && between 0 l j) (y j) (pos 0)
    go r j k true f =
        rw (f, lt-ltb j l k, same j (ltb-true j e f))
    go r j k false f =
        let zero = flat j (ltb-false j e f) k in
        rw (f, lt-ltb j l k, le-leb 0 j (omega arith), zero) (none (eqb r q || eqb r groups))
      where
        none : (t : Bool) → cell_at l old r j +ℤ cond (t && false) (x j) (pos 0)
            ≡ cell_at l old r j +ℤ cond (t && true) (pos 0) (pos 0)
        none true = refl
        none false = refl

-- ---- room

module _ {l q b e begin positions : ℕ} {weight : ℤ} {out : List ℤ}
    (s : BarsRoom l q b e begin positions weight out) where
  -- in row p, in a slice that has the same cells there
  pub row_room : (p : ℕ) {now : List ℤ} → p < rows
      → ((j : ℕ) → j < e - b → get_or now (p * l + b + j) (pos 0) ≡ get_or out (p * l + b + j) (pos 0))
      → length now ≡ length out
      → RowRoom (p * l + b) (e - b) (b - begin) positions weight now
  row_room p h same long =
      let most = mul-le-mul_right l h in
      let order = s.order in
      let inside = s.inside in
      record {
        inside = let room = s.room in omega arith;
        there = let start = s.start in let there = s.there in omega arith;
        light = s.light;
        small = λ j k.
            let at : p * l + b + j ≡ p * l + (b + j) = omega arith in
            rw (same j k, at) (s.small.cells p (b + j) h (omega arith) (omega arith));
      }

  -- the last row is not a group's
  pub last_same : {x : ℕ → ℤ} {now : List ℤ} → Added (q * l + b) (e - b) x out now → (j : ℕ) → j < e - b
      → get_or now (groups * l + b + j) (pos 0) ≡ get_or out (groups * l + b + j) (pos 0)
  last_same w j k =
      let below = mul-le-mul_right l s.row in
      let order = s.order in
      let inside = s.inside in
      rest_at (pos 0) (groups * l + b + j) w.rest (omega arith)
