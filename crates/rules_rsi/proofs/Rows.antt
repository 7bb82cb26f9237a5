-- The rows of the work slice: gains and losses of the means' changes, and their sums. Assumes nothing.
use mathlib.Core.Path.{◌≡◌, refl, sym, ap, ◌∙◌}
use mathlib.Core.Bool.{Bool, true, false, cond}
use mathlib.Core.List.{List}
use Prim.Native.Nat.{ℕ, zero, suc, ◌+◌, ◌-◌, ◌*◌, ◌<◌, ◌≤◌}
use native.Mathlib.Nat.{zero-add}
use native.Mathlib.Omega.{arith}
use lib.IntN.{pos}
use lib.ListN.{length}
use lib.Ieee.{Float, nan, binary64, of_int, lt}
use Rattle.cells.specs.Line.{Line, line, plus_zero, minus_zero}
use Rattle.cells.specs.Written.{Writing}
use Rattle.cells.specs.inner.Touched.{Touched}
use Rattle.cells.proofs.Leads.{not_yet}
use Rattle.cells.proofs.RowWrites.{beside_first, beside_second}
use Rattle.cells.proofs.Touched.{touched, touched_then, touched_more}
use Rattle.cells.proofs.Written.{read_back, writing_same}
use Rattle.windows.specs.Window.{sum_from, window_sum, mean}
use Rattle.windows.proofs.Zeros.{EitherZero, either_above, either_plus, sums_from_either}
use Rattle.window_means.specs.inner.Row.{RowHolds}
use Rattle.window_means.proofs.Row.{none_of_row, row_before, first_row, row_stands}
use Rattle.changes.specs.Changes.{gain, loss, gains, losses}
use Rattle.changes.proofs.Causal.{causal_change}
use Rattle.rules_rsi.specs.RsiReverse.{first_change, changes_before, sum_before, rsi_before}
use Rattle.rules_rsi.specs.inner.Stages.{parts, with_parts, Changed, index_by}
use Rattle.rules_rsi.proofs.Index.{changes_before_lem, first_change_lem, index_is}

-- ---- a row of gains or losses

module _ (part : Float → Float) (to : ℕ) (old : List Float) where
  pub before_parts : (j : ℕ) → j < to + 1 → with_parts part to old j ≡ line old j
  before_parts j h = beside_first (to + 1) _ _ j h

  pub parts_cell : (i : ℕ) → 0 < i → with_parts part to old (to + i) ≡ parts part (line old) i
  parts_cell i h =
      let cell : to + i ≡ to + 1 + (i - 1) = omega arith in
      let bar : i - 1 + 1 ≡ i = omega arith in
      rw cell (beside_second (to + 1) _ _ (i - 1) ∙ rw bar)

  -- none is written yet
  pub none_of_parts : Writing (to + 1) (with_parts part to old) old old
  none_of_parts =
      writing_same (none_of_row 0 to 0 1 old)
      (λ j l. row_before 0 to 0 1 old j l ∙ sym (before_parts j l))

parts_same : (part : Float → Float) (f g : Line) (i : ℕ) → ((j : ℕ) → j ≤ i → f j ≡ g j)
    → parts part f i ≡ parts part g i
parts_same part f g i s = ap part (causal_change plus_zero f g i s)

module _ (part : Float → Float) (to : ℕ) {e : ℕ} {old now : List Float} (w : Writing e (with_parts part to old) old now)
  where
    -- the cells before the row are as they were
    pub cell_stays : (j : ℕ) → (j ≤ to) × (j < e) × (j < length old) → line now j ≡ line old j
    cell_stays j (a, b, c) = read_back j nan w (b, c) ∙ before_parts part to old j (omega arith)

    -- so the next cell is what the row asks
    pub next_part : (i : ℕ) → (0 < i) × (i < to) × (to < e) × (to < length old)
        → parts part (line now) i ≡ with_parts part to old (to + i)
    next_part i (a, b, c, d) =
        parts_same part (line now) (line old) i (λ j l. cell_stays j (omega arith))
        ∙ sym (parts_cell part to old i a)

module _ (part : Float → Float) (to : ℕ) {bars : ℕ} {old now : List Float}
    (w : Writing (to + bars) (with_parts part to old) old now) (r : to + bars ≤ length old) where
  -- the row holds them
  pub row_of_parts : {g : Line} → RowHolds 0 0 bars g old → RowHolds to 1 bars (parts part g) now
  row_of_parts {g} h = record {
    cell = λ i l.
        read_back (to + i) nan w (omega arith)
        ∙ parts_cell part to old i l.0
        ∙ parts_same part (line old) g i (λ j m. rw zero-add at (h.cell j (omega arith)));
  }

  -- and a row before it still holds its own
  pub row_stays : {at lo : ℕ} {f : Line} → RowHolds at lo bars f old → at + bars ≤ to → RowHolds at lo bars f now
  row_stays = row_stands (λ j l. cell_stays part to w j (omega arith))

-- the means, and then both rows
pub three_rows : (n : ℕ) (s : List Float) {w0 w1 w2 w3 : List Float} → 3 * length s ≤ length w0
    → Writing (length s) (mean n (line s)) w0 w1
    → Writing (length s + length s) (with_parts gain (length s) w1) w1 w2
    → Writing (2 * length s + length s) (with_parts loss (2 * length s) w2) w2 w3
    → Changed n s w3 × Touched (3 * length s) w0 w3
unfolding gains losses
three_rows n s {w0} {w1} {w2} {w3} h a b c =
    let l1 : length w1 ≡ length w0 = a.long in
    let l2 : length w2 ≡ length w0 = b.long ∙ l1 in
    let l3 : length w3 ≡ length w0 = c.long ∙ l2 in
    let means1 = first_row a (omega arith) in
    let means2 = row_stays gain (length s) b (omega arith) means1 (omega arith) in
    let up = row_of_parts gain (length s) b (omega arith) means1 in
    let up_stays = row_stays loss (2 * length s) c (omega arith) up (omega arith) in
    let t1 : Touched (3 * length s) w0 w1 = touched_more (touched a) (omega arith) in
    let t2 : Touched (3 * length s) w1 w2 = touched_more (touched b) (omega arith) in
    let t3 : Touched (3 * length s) w2 w3 = touched_more (touched c) (omega arith) in (
      record { room = omega arith; up = up_stays; down = row_of_parts loss (2 * length s) c (omega arith) means2 },
      touched_then (touched_then t1 t2) t3,
    )

-- writing in the first row leaves both
pub still_changed : {n k : ℕ} {s old now : List Float} {f : Line} → Changed n s old → Writing k f old now → k ≤ length s
    → Changed n s now
still_changed c w h =
    let long = w.long in
    record {
      room = omega (arith, c.room);
      up = record { cell = λ i l. not_yet _ w (omega arith) ∙ c.up.cell i l };
      down = record { cell = λ i l. not_yet _ w (omega arith) ∙ c.down.cell i l };
    }

-- ---- sums of a row

sum_moved : (z : Float) (f g : Line) (a b k : ℕ) → ((j : ℕ) → j < k → f (a + j) ≡ g (b + j)) → sum_from z f a k
    ≡ sum_from z g b k
unfolding sum_from
sum_moved z f g a b zero h = refl
sum_moved z f g a b (suc k) h = rw (sum_moved z f g a b k (λ j l. h j (omega arith)), h k (omega arith))

either_gain : (x : Float) → EitherZero (gain x)
either_gain x = go (lt plus_zero x) refl
  where
    go : (t : Bool) → lt plus_zero x ≡ t → EitherZero (cond t x plus_zero)
    go true e = either_above x e
    go false e = either_plus 0 (pos 0)

-- no gain and no loss is -0.0
pub either_gains : (g : Line) (i : ℕ) → EitherZero (gains g i)
unfolding gains
either_gains g i = either_gain _

pub either_losses : (g : Line) (i : ℕ) → EitherZero (losses g i)
unfolding losses
either_losses g i = either_gain _

module _ {at bars : ℕ} {f : Line} {now : List Float} (row : RowHolds at 1 bars f now) (no : (i : ℕ) → EitherZero (f i))
  where
    -- the k cells of a row before bar i, summed in the slice
    row_sum : (k i first : ℕ) → (first + k ≡ i) × (0 < k) × (0 < first) × (i ≤ bars)
        → window_sum k (line now) (at + i - 1) ≡ sum_from plus_zero f first k
    unfolding window_sum
    row_sum k i first (e, a, b, c) =
        let start : at + i - 1 + 1 - k ≡ at + first = omega arith in
        let cell : (j : ℕ) → at + first + j ≡ at + (first + j) = λ j. omega arith in
        rw start
        (sum_moved minus_zero (line now) f (at + first) first k
        (λ j l. rw (cell j) (row.cell (first + j) (omega arith)))
        ∙ sums_from_either f first k a (no first))

    -- of all changes that count
    pub sum_at : (n i : ℕ) → (0 < n) × (0 < changes_before n i) × (i ≤ bars)
        → window_sum (changes_before n i) (line now) (at + i - 1) ≡ sum_before n f i
    unfolding sum_before
    sum_at n i (a, b, c) = row_sum (changes_before n i) i (first_change n i)
        (omega (arith, changes_before_lem n i, first_change_lem n i (omega (arith, changes_before_lem n i))))

    -- of n changes, at bars side by side
    pub full_sum : (n i : ℕ) → (0 < n) × (2 * n ≤ i) × (i + 16 ≤ bars) → (j : ℕ) → j < 16
        → window_sum n (line now) (at + i - 1 + j) ≡ sum_before n f (i + j)
    unfolding sum_before
    full_sum n i (a, b, c) j l =
        let count : changes_before n (i + j) ≡ n = omega (arith, changes_before_lem n (i + j)) in
        let first = first_change_lem n (i + j) (omega arith) in
        let bar : at + i - 1 + j ≡ at + (i + j) - 1 = omega arith in
        rw (count, bar) (row_sum n (i + j) (first_change n (i + j)) (omega arith))

-- ---- an index where n changes count, by its sums

pub full_index : (n j : ℕ) (g : Line) {x y : Float} → x ≡ sum_before n (gains g) j → y ≡ sum_before n (losses g) j
    → 2 * n ≤ j
    → index_by (of_int binary64 (pos n)) x y ≡ rsi_before n g j
full_index n j g p q h =
    let count : changes_before n j ≡ n = omega (arith, changes_before_lem n j) in
    rw count at (index_is n j g p q (omega arith))
