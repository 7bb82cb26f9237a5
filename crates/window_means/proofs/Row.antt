-- The means of one row of a slice, in another row of it: how they are written, and how they are read. Assumes nothing.
use mathlib.Core.Path.{◌≡◌, refl, sym, ap, ◌∙◌}
use mathlib.Core.Bool.{Bool, true, false, not}
use mathlib.Core.List.{List}
use Prim.Native.Nat.{ℕ, zero, suc, ◌+◌, ◌-◌, ◌<◌, ◌≤◌}
use native.Mathlib.Nat.{zero-add}
use native.Mathlib.Omega.{arith}
use borrow.Author.Tests.{le-leb, lt-leb}
use lib.Dec.{T, ltb, ltb→lt, nltb→le}
use lib.ListN.{length}
use lib.Ieee.{Float, nan}
use Rattle.cells.specs.Line.{Line, line, plus_zero, minus_zero}
use Rattle.cells.proofs.Line.{from_bar_lem}
use Rattle.cells.specs.Written.{Writing}
use Rattle.cells.proofs.Written.{read_back, writing_same, then_written, stood}
use Rattle.windows.specs.Window.{over, sum_from, window_sum, mean}
use Rattle.windows.proofs.Window.{causal_mean}
use Rattle.window_means.specs.inner.Row.{row_at, means_of_row, RowRoom, RowUpTo, RowHolds}

-- ---- a window of a row is one of the slice

sum_of_row : (z : Float) (f : Line) (a b k : ℕ) → sum_from z f (a + b) k ≡ sum_from z (λ j. f (a + j)) b k
unfolding sum_from
sum_of_row z f a b zero = refl
sum_of_row z f a b (suc k) = let e : a + b + k ≡ a + (b + k) = omega arith in rw (sum_of_row z f a b k, e)

mean_of_row : (n a i : ℕ) (f : Line) → n ≤ i + 1 → mean n f (a + i) ≡ mean n (λ j. f (a + j)) i
unfolding mean window_sum
mean_of_row n a i f h =
    let start : a + i + 1 - n ≡ a + (i + 1 - n) = omega arith in
    rw (from_bar_lem (n - 1) plus_zero _ (a + i) (omega arith), from_bar_lem (n - 1) plus_zero _ i (omega arith), start)
    (ap (over n) (sum_of_row minus_zero f a (i + 1 - n) n))

-- ---- the second row

module _ (from to n first : ℕ) (old : List Float) where
  pub row_before : (j : ℕ) → j < to + first → means_of_row from to n first old j ≡ line old j
  unfolding means_of_row
  row_before j h = simp (lt-leb (to + first) j h)

  pub row_cell_lem : (i : ℕ) → first ≤ i → means_of_row from to n first old (to + i) ≡ mean n (row_at from old) i
  unfolding means_of_row
  row_cell_lem i h =
      let bar : to + i - to ≡ i = omega arith in
      let l : to + first ≤ to + i = omega arith in
      rw (le-leb (to + first) (to + i) l, bar)

-- no mean is written yet
pub none_of_row : (from to n first : ℕ) (old : List Float)
    → Writing (to + first) (means_of_row from to n first old) old old
none_of_row from to n first old = stood nan (row_before from to n first old)

-- where the cells before bar `to` are as they were, a row that ends there still holds its own
pub row_stands : {at lo to bars : ℕ} {f : Line} {old now : List Float} → ((j : ℕ) → j < to → line now j ≡ line old j)
    → RowHolds at lo bars f old → at + bars ≤ to → RowHolds at lo bars f now
row_stands {at} same h l = record { cell = λ i m. same (at + i) (omega arith) ∙ h.cell i m }

module _ {from to bars n first e : ℕ} {old now : List Float} (g : RowRoom from to bars n first (length old))
    (w : Writing e (means_of_row from to n first old) old now) (r : to ≤ e) where
  -- every cell before the second row is as it was
  pub cell_stays : (j : ℕ) → j < to → line now j ≡ line old j
  cell_stays j l = read_back j nan w (omega arith) ∙ row_before from to n first old j (omega arith)

  -- and so are the means of the first row
  means_stay : (i : ℕ) → i < bars → mean n (row_at from now) i ≡ mean n (row_at from old) i
  means_stay i l = causal_mean n (row_at from now) (row_at from old) i (λ j m. cell_stays (from + j) (omega arith))

  -- another row that ends before the second one
  pub row_kept : {at lo : ℕ} {f : Line} → RowHolds at lo bars f old → at + bars ≤ to → RowHolds at lo bars f now
  row_kept = row_stands cell_stays

  -- one of them is the cell that is asked of the second row
  pub mean_for_row : (i : ℕ) → first ≤ i → i < bars
      → mean n (line now) (from + i) ≡ means_of_row from to n first old (to + i)
  mean_for_row i h l =
      mean_of_row n from i (line now) (omega arith) ∙ means_stay i l ∙ sym (row_cell_lem from to n first old i h)

  -- and so of `count` bars from bar i on
  pub for_row : (i : ℕ) {count : ℕ} → (first ≤ i) × (i + count ≤ bars) → (k : ℕ) → k < count
      → mean n (line now) (from + i + k) ≡ means_of_row from to n first old (to + i + k)
  for_row i (h, l) k m =
      let x : from + i + k ≡ from + (i + k) = omega arith in
      let y : to + i + k ≡ to + (i + k) = omega arith in
      rw (x, y) (mean_for_row (i + k) (omega arith) (omega arith))

-- ---- on from a bar that was reached

pub row_goes_on : {N from to bars n first r e : ℕ} {old mid now : List Float}
    → RowRoom from to bars n first (length old) → RowUpTo N from to bars n first r old mid
    → Writing e (means_of_row from to n r mid) mid now
    → (to + r ≤ e) × (e ≤ to + bars) → Writing e (means_of_row from to n first old) old now
row_goes_on {N} {from} {to} {bars} {n} {first} {r} {e} {old} {mid} g w v (p, q) =
    writing_same (then_written w.means v p)
    (λ j l. same j l (ltb j (to + r)) (ltb→lt j (to + r)) (nltb→le j (to + r)))
  where
    same : (j : ℕ) → j < e → (t : Bool) → (T t → j < to + r) → (T (not t) → to + r ≤ j)
        → means_of_row from to n r mid j ≡ means_of_row from to n first old j
    same j l true x y =
        row_before from to n r mid j (x tt)
        ∙ read_back j nan w.means (let h = x tt in let i = w.inside in omega arith)
    same j l false x y =
        let h = y tt in
        let bar : j ≡ to + (j - to) = omega arith in
        let o = w.on in
        rw bar
        (row_cell_lem from to n r mid (j - to) (omega arith)
        ∙ means_stay g w.means (omega arith) (j - to) (omega arith)
        ∙ sym (row_cell_lem from to n first old (j - to) (omega arith)))

-- a row that was reached has room for the rest
pub row_room : {N from to bars n first r : ℕ} {old mid : List Float} → RowRoom from to bars n first (length old)
    → RowUpTo N from to bars n first r old mid → RowRoom from to bars n r (length mid)
row_room g w =
    let long = w.means.long in
    let on = w.on in
    record {
      window = g.window;
      past_lead = omega arith;
      inside = w.inside;
      apart = g.apart;
      room = omega arith;
    }

-- ---- rows that hold a line

-- the first cells of a slice are a row
pub first_row : {bars : ℕ} {f : Line} {old now : List Float} → Writing bars f old now → bars ≤ length old
    → RowHolds 0 0 bars f now
first_row w h = record { cell = λ i l. rw zero-add (read_back i nan w (omega arith)) }

-- the means of a row that holds f are those of f
pub row_written : {from to bars n first : ℕ} {f : Line} {old now : List Float}
    → RowRoom from to bars n first (length old)
    → Writing (to + bars) (means_of_row from to n first old) old now → RowHolds from 0 bars f old
    → RowHolds to first bars (mean n f) now
row_written {from} {to} {n = n} {first} {f} {old} g w h = record {
  cell = λ i l.
      read_back (to + i) nan w (omega arith)
      ∙ row_cell_lem from to n first old i l.0
      ∙ causal_mean n (row_at from old) f i (λ j m. h.cell j (omega arith));
}
