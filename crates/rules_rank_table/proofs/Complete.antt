-- A table is taken exactly if it is complete: counts of rows, and rows by their numbers in the slice. Assumes nothing.
use mathlib.Core.Path.{◌≡◌, refl, sym}
use mathlib.Core.Bool.{Bool, true, false, cond}
use mathlib.Core.List.{List, [], ◌∷◌}
use Prim.Native.Nat.{ℕ, zero, suc, ◌+◌, ◌-◌, ◌/◌, ◌<◌, ◌≤◌, min}
use native.Mathlib.Nat.{not-suc-le-zero, le_of_suc-le-suc}
use native.Mathlib.Omega.{arith}
use borrow.Author.Tests.{leb-true, leb-false, le-leb, lt-ltb, le-ltb}
use lib.Dec.{T, leb, ltb}
use lib.IntN.{ℤ, pos, negsuc, neg_ℤ, ◌-ℤ◌}
use lib.ListN.{length, get_or}
use lib.Signed.{le_z, ◌≤ℤ◌}
use Rattle.values.specs.Accepted.{all}
use Rattle.values.proofs.All.{and_parts}
use Rattle.cells.specs.Search.{every_bar}
use Rattle.calls.specs.Answer.{Answer}
use Rattle.rules_rank_table.specs.Table.{Row, rows_read, covers, cover_count, is_position, table_checked, position_for}
use Rattle.rules_rank_table.specs.Taken.{from_at, to_at, position_at, Covers, CoveredOnce, Complete}
use Rattle.rules_rank_table.specs.inner.Stages.{row_at}
use Rattle.rules_rank_table.proofs.Known.{one_of_three, is_position_lem}
use Rattle.rules_rank_table.proofs.Open.{Passed}
use Rattle.rules_rank_table.proofs.RowsRead.{rows_long, row_is}

-- ---- every number from -100 to 100

every_at : (test : ℕ → Bool) (k j : ℕ) → every_bar test k ≡ true → j < k → test j ≡ true
unfolding every_bar
every_at test zero j e h = absurd (not-suc-le-zero h)
every_at test (suc k) j e h =
    let (before, last) = and_parts (every_bar test k) (test k) e in
    go (ltb j k) refl (every_at test k j before) last
  where
    go : (t : Bool) → ltb j k ≡ t → (j < k → test j ≡ true) → test k ≡ true → test j ≡ true
    go true p before last = before (leb-true (suc j) k p)
    go false p before last = let m = leb-false (suc j) k p in let same : j ≡ k = omega arith in rw same last

every_of : (test : ℕ → Bool) (k : ℕ) → ((j : ℕ) → j < k → test j ≡ true) → every_bar test k ≡ true
unfolding every_bar
every_of test zero h = refl
every_of test (suc k) h = rw (every_of test k (λ j l. h j (omega arith)), h k (omega arith))

-- a number's place from -100 on
place : ℤ → ℕ
place (pos a) = a + 100
place (negsuc a) = 99 - a

record Placed (k : ℤ) : Type 0 where
  is : pos (place k) -ℤ pos 100 ≡ k
  under : place k < 201

yes : {t : Bool} → T t → t ≡ true
yes {t = true} h = refl
yes {t = false} h = absurd h

placed : (k : ℤ) → neg_ℤ (pos 100) ≤ℤ k → k ≤ℤ pos 100 → Placed k
unfolding place
placed (pos a) l m =
    let most = leb-true a 100 (yes m.le) in
    let none : a + 100 - 100 ≡ a = omega arith in
    record { is = rw (le-ltb (a + 100) 100 (omega arith), none); under = omega arith }
placed (negsuc a) l m =
    let most = leb-true a 99 (yes l.le) in
    let back : 100 - suc (99 - a) ≡ a = omega arith in
    record { is = rw (lt-ltb (99 - a) 100 (omega arith), back); under = omega arith }

-- the number at a place lies from -100 to 100
at_place : (j : ℕ) → j < 201 → (neg_ℤ (pos 100) ≤ℤ (pos j -ℤ pos 100)) × ((pos j -ℤ pos 100) ≤ℤ pos 100)
at_place j h = go (ltb j 100) refl
  where
    go : (t : Bool) → ltb j 100 ≡ t → (neg_ℤ (pos 100) ≤ℤ cond t (negsuc (100 - suc j)) (pos (j - 100)))
        × (cond t (negsuc (100 - suc j)) (pos (j - 100)) ≤ℤ pos 100)
    go true e = (record { le = rw (le-leb (100 - suc j) 99 (omega arith)) tt }, record { le = tt })
    go false e = (record { le = tt }, record { le = rw (le-leb (j - 100) 100 (omega arith)) tt })

-- ---- how many rows of a list cover k, and which

more_or_same : (t : Bool) {a n : ℕ} → a ≤ n → a ≤ cond t (suc n) n
more_or_same true h = omega arith
more_or_same false h = h

module _ (k : ℤ) (d : Row) where
  -- row r of the list covers k
  record At (rows : List Row) (r : ℕ) : Type 0 where
    inside : r < length rows
    covered : covers k (get_or rows r d) ≡ true

  record Found (rows : List Row) : Type 0 where
    row : ℕ
    at : At rows row
    position : position_for k rows ≡ (get_or rows row d).position

  one_later : {x : Row} {rows : List Row} {r : ℕ} → At rows r → At (x ∷ rows) (suc r)
  one_later a = let i = a.inside in record { inside = omega arith; covered = a.covered }

  one_earlier : {x : Row} {rows : List Row} {r : ℕ} → At (x ∷ rows) (suc r) → At rows r
  one_earlier a = record { inside = le_of_suc-le-suc a.inside; covered = a.covered }

  -- the first of them has the position
  found : (rows : List Row) → 1 ≤ cover_count k rows → Found rows
  unfolding cover_count position_for
  found [] h = absurd (not-suc-le-zero h)
  found (x ∷ rows) h = go (covers k x) refl h (found rows)
    where
      go : (t : Bool) → covers k x ≡ t → 1 ≤ cond t (suc (cover_count k rows)) (cover_count k rows)
          → (1 ≤ cover_count k rows → Found rows) → Found (x ∷ rows)
      go true e h later = record { row = 0; at = record { inside = omega arith; covered = e }; position = rw e }
      go false e h later =
          let f = later h in record { row = suc f.row; at = one_later f.at; position = rw e f.position }

  record TwoFound (rows : List Row) : Type 0 where
    first : ℕ
    second : ℕ
    at_first : At rows first
    at_second : At rows second
    order : first < second

  two_found : (rows : List Row) → 2 ≤ cover_count k rows → TwoFound rows
  unfolding cover_count
  two_found [] h = absurd (not-suc-le-zero h)
  two_found (x ∷ rows) h = go (covers k x) refl h (two_found rows)
    where
      go : (t : Bool) → covers k x ≡ t → 2 ≤ cond t (suc (cover_count k rows)) (cover_count k rows)
          → (2 ≤ cover_count k rows → TwoFound rows) → TwoFound (x ∷ rows)
      go true e h later =
          let f = found rows (le_of_suc-le-suc h) in
          record {
            first = 0;
            second = suc f.row;
            at_first = record { inside = omega arith; covered = e };
            at_second = one_later f.at;
            order = omega arith;
          }
      go false e h later =
          let f = later h in
          record {
            first = suc f.first;
            second = suc f.second;
            at_first = one_later f.at_first;
            at_second = one_later f.at_second;
            order = let o = f.order in omega arith;
          }

  -- a row that covers k is counted
  counted : (rows : List Row) (r : ℕ) → At rows r → 1 ≤ cover_count k rows
  unfolding cover_count
  counted [] r a = absurd (not-suc-le-zero a.inside)
  counted (x ∷ rows) zero a = rw a.covered (omega arith)
  counted (x ∷ rows) (suc r) a = more_or_same (covers k x) (counted rows r (one_earlier a))

  -- and so are two
  two_counted : (rows : List Row) (q r : ℕ) → q < r → At rows q → At rows r → 2 ≤ cover_count k rows
  unfolding cover_count
  two_counted rows q zero l a b = absurd (not-suc-le-zero l)
  two_counted [] q (suc r) l a b = absurd (not-suc-le-zero a.inside)
  two_counted (x ∷ rows) zero (suc r) l a b =
      let rest = counted rows r (one_earlier b) in
      rw a.covered (omega arith)
  two_counted (x ∷ rows) (suc q) (suc r) l a b =
      more_or_same (covers k x) (two_counted rows q r (le_of_suc-le-suc l) (one_earlier a) (one_earlier b))

-- ---- rows of the slice

module _ (table : List ℤ) (k : ℤ) where
  abbrev none : Row
  none = row_at table 0

  -- a row of the list is a row of the slice
  to_slice : (r : ℕ) → At k none (rows_read table) r → Covers table k r
  to_slice r a =
      let l = rows_long table in
      let inside : r < min 16 (length table / 3) = let i = a.inside in omega arith in
      let covered = rw (row_is table r none inside) at a.covered in
      let (least, most) = and_parts (le_z (from_at table r) k) (le_z k (to_at table r)) covered in
      record { read = inside; least = record { le = rw least tt }; most = record { le = rw most tt } }

  to_list : (r : ℕ) → Covers table k r → At k none (rows_read table) r
  to_list r c =
      let l = rows_long table in
      record {
        inside = let i = c.read in omega arith;
        covered = rw (row_is table r none c.read, yes {t = le_z (from_at table r) k} c.least.le)
            (yes c.most.le);
      }

  -- two rows that cover k are one, where it is not covered twice
  same_row : (q r : ℕ) → cover_count k (rows_read table) ≤ 1 → Covers table k q → Covers table k r → q ≡ r
  same_row q r few a b = go (leb q r) (leb r q) refl refl
    where
      go : (t u : Bool) → leb q r ≡ t → leb r q ≡ u → q ≡ r
      go true true e f = let m = leb-true q r e in let n = leb-true r q f in omega arith
      go false u e f =
          let two = two_counted k none (rows_read table) r q (leb-false q r e) (to_list r b) (to_list q a) in
          absurd (omega arith)
      go true false e f =
          let two = two_counted k none (rows_read table) q r (leb-false r q f) (to_list q a) (to_list r b) in
          absurd (omega arith)

  -- covered once
  pub once : cover_count k (rows_read table) ≤ 1 → 1 ≤ cover_count k (rows_read table) → CoveredOnce table k
  once few some =
      let f = found k none (rows_read table) some in
      let c = to_slice f.row f.at in
      record { row = f.row; covers = c; only = λ r b. same_row r f.row few b c }

  -- looked up, it has that row's position
  pub once_position : (o : CoveredOnce table k) → position_for k (rows_read table) ≡ position_at table o.row
  once_position o =
      let f = found k none (rows_read table) (counted k none (rows_read table) o.row (to_list o.row o.covers)) in
      let c = to_slice f.row f.at in
      rw (row_is table f.row none c.read, o.only f.row c) at f.position

  -- and back
  once_counted : CoveredOnce table k → (cover_count k (rows_read table) ≤ 1) × (1 ≤ cover_count k (rows_read table))
  once_counted o = (
    go (leb (cover_count k (rows_read table)) 1) refl,
    counted k none (rows_read table) o.row (to_list o.row o.covers),
  )
    where
      go : (t : Bool) → leb (cover_count k (rows_read table)) 1 ≡ t → cover_count k (rows_read table) ≤ 1
      go true e = leb-true _ 1 e
      go false e =
          let f = two_found k none (rows_read table) (leb-false _ 1 e) in
          let p = o.only f.first (to_slice f.first f.at_first) in
          let q = o.only f.second (to_slice f.second f.at_second) in
          let l = f.order in
          absurd (omega arith)

-- ---- the positions

known_at : (rows : List Row) (d : Row) (r : ℕ) → all (λ row. is_position row.position) rows ≡ true → r < length rows
    → is_position (get_or rows r d).position ≡ true
known_at [] d r e h = absurd (not-suc-le-zero h)
known_at (x ∷ rows) d zero e h = (and_parts (is_position x.position) _ e).0
known_at (x ∷ rows) d (suc r) e h =
    known_at rows d r (and_parts (is_position x.position) _ e).1 (le_of_suc-le-suc h)

known_of : (rows : List Row) (d : Row) → ((r : ℕ) → r < length rows → is_position (get_or rows r d).position ≡ true)
    → all (λ row. is_position row.position) rows ≡ true
known_of [] d h = refl
known_of (x ∷ rows) d h = rw (h 0 (omega arith), known_of rows d (λ r l. h (suc r) (omega arith)))

-- ---- exactly if

module _ (table : List ℤ) where
  -- how often a number from -100 to 100 is covered, where the table passed
  pub passed_count : Passed (rows_read table) → (k : ℤ) → neg_ℤ (pos 100) ≤ℤ k → k ≤ℤ pos 100
      → (cover_count k (rows_read table) ≤ 1) × (1 ≤ cover_count k (rows_read table))
  passed_count p k l m =
      let j = placed k l m in
      let two = every_at _ 201 (place k) (sym p.covered.no_two) j.under in
      let gap = every_at _ 201 (place k) (sym p.covered.no_gap) j.under in
      (leb-true _ 1 (rw j.is at two), leb-true 1 _ (rw j.is at gap))

  pub passed_complete : Passed (rows_read table) → Complete table
  passed_complete p = record {
    once = λ k l m. let (few, some) = passed_count p k l m in once table k few some;
    known = λ r h.
        let l = rows_long table in
        let e = known_at (rows_read table) (row_at table 0) r p.known.each (omega arith) in
        one_of_three _ (rw (row_is table r (row_at table 0) h) at e);
  }

  -- how often the j-th number from -100 on is covered, where the table is complete
  complete_count : Complete table → (j : ℕ) → j < 201
      → (cover_count (pos j -ℤ pos 100) (rows_read table) ≤ 1) × (1 ≤ cover_count (pos j -ℤ pos 100) (rows_read table))
  complete_count c j h =
      let (l, m) = at_place j h in once_counted table (pos j -ℤ pos 100) (c.once (pos j -ℤ pos 100) l m)

  pub complete_taken : Complete table → (next : Answer) → table_checked (rows_read table) next ≡ next
  unfolding table_checked
  complete_taken c next =
      let two = every_of (λ j. leb (cover_count (pos j -ℤ pos 100) (rows_read table)) 1) 201
      (λ j h. le-leb _ 1 (complete_count c j h).0) in
      let gap = every_of (λ j. leb 1 (cover_count (pos j -ℤ pos 100) (rows_read table))) 201
      (λ j h. le-leb 1 _ (complete_count c j h).1) in
      let known = known_of (rows_read table) (row_at table 0)
      (λ r h. let l = rows_long table in
      rw (row_is table r (row_at table 0) (omega arith)) (is_position_lem (c.known r (omega arith)))) in
      rw (two, gap, known)
