-- A bar's position from what the stages before it wrote. Assumes nothing.
use mathlib.Core.Path.{◌≡◌, sym, ◌∙◌}
use mathlib.Core.List.{List}
use Prim.Native.Nat.{ℕ, zero, suc, ◌+◌, ◌-◌, ◌*◌, ◌<◌, ◌≤◌}
use native.Mathlib.Omega.{arith}
use lib.Dec.{T}
use lib.IntN.{ℤ}
use lib.ListN.{length}
use lib.Ieee.{Float, nan, binary64, round, sub, mul, div, of_int, in_signed, to_signed, is_nan}
use Rattle.rounding.specs.Leaves.{round_to_whole}
use Rattle.cells.specs.Line.{Line, line}
use Rattle.cells.proofs.Line.{from_bar_lem, before_bar}
use Rattle.cells.specs.Written.{Writing}
use Rattle.cells.specs.inner.Leads.{Led}
use Rattle.cells.proofs.Leads.{lead_only}
use Rattle.cells.proofs.Written.{read_back, writing_same}
use Rattle.cells.proofs.RowWrites.{beside_first, beside_second}
use Rattle.windows.specs.Window.{mean}
use Rattle.ranks.specs.Counted.{below, count_from}
use Rattle.ranks.specs.inner.Counting.{Counting}
use Rattle.ranks.proofs.Counted.{count_from_same}
use Rattle.rules_held.specs.Held.{flat}
use Rattle.rules_rank.specs.Rank.{whole_rank, below_now}
use Rattle.rules_rank_table.specs.Table.{Row}
use Rattle.rules_rank_table.specs.RankTable.{table_position, rank_table_line}
use Rattle.rules_rank_table.specs.inner.Stages.{position_cell, TableRows}
use Rattle.rules_rank_table.proofs.Known.{one_of_three, position_known, there_and_back}

-- ---- no rank

-- a window of one bar has none
one_flat : (rows : List Row) (f : Line) (i : ℕ) → rank_table_line rows 1 f i ≡ flat
unfolding rank_table_line table_position whole_rank below_now count_from round_to_whole is_nan sub mul div of_int round
one_flat rows f i = from_bar_lem 0 flat _ i (omega arith)

flat_at : (rows : List Row) (n : ℕ) (f : Line) → 0 < n → (i : ℕ) → (1 < n → i < 2 * n - 2)
    → rank_table_line rows n f i ≡ flat
unfolding rank_table_line
flat_at rows zero f p i h = let none : 0 < 0 = p in absurd (omega arith)
flat_at rows (suc zero) f p i h = one_flat rows f i
flat_at rows (suc (suc n)) f p i h = before_bar (2 * suc (suc n) - 2) flat _ i (h (omega arith))

-- where no bar has one, all cells are flat
pub none_ranked : (rows : List Row) (n : ℕ) {l r : ℕ} (f : Line) {old now : List ℤ} → 0 < n → (1 < n → l ≤ 2 * n - 2)
    → Led l l flat r old now → Writing l (rank_table_line rows n f) old now
none_ranked rows n {l} f p h w =
    writing_same (lead_only w (λ i. flat) (omega arith))
    (λ i m. before_bar l flat _ i m ∙ sym (flat_at rows n f p i (λ q. omega (arith, h q))))

-- ---- a rank that the count picks

module _ {n : ℕ} {rows : List Row} {s now : List Float} (r : TableRows n rows s now) where
  -- the means, read back
  mean_at : (j : ℕ) → j < length s → line now j ≡ mean n (line s) j
  mean_at j h =
      let room = r.room in
      let due = r.due in
      let w = r.window in
      read_back j nan r.cells (omega arith) ∙ beside_first _ _ _ j h

  module _ (i : ℕ) {c : ℕ} (k : Counting (below (line now i)) (line now) (i + 1 - n) (n - 1) c)
      (h : (2 * n - 2 ≤ i) × (i < length s)) where
    -- the position that the count gives
    cell_is : line now (length s + c) ≡ position_cell rows n c
    cell_is =
        let w = r.window in
        let room = r.room in
        let due = r.due in
        let few = k.most in
        read_back (length s + c) nan r.cells (omega arith) ∙ beside_second (length s) _ _ c

    -- is an i32
    pub castable_cell : T (in_signed binary64 31 (line now (length s + c)))
    castable_cell = rw cell_is (there_and_back (one_of_three _ (position_known c (n - 1) r.known))).0

    -- and that of bar i
    pub picked : to_signed 31 (line now (length s + c)) ≡ rank_table_line rows n (line s) i
    unfolding rank_table_line below_now
    picked =
        let w = r.window in
        let count : c ≡ below_now n (mean n (line s)) i =
        k.is ∙ count_from_same _ _ _ _ (i + 1 - n) (n - 1) (λ j m. rw (mean_at j (omega arith), mean_at i h.1)) in
        let cell : to_signed 31 (position_cell rows n c) ≡ table_position rows c (n - 1) =
        (there_and_back (one_of_three _ (position_known c (n - 1) r.known))).1 in
        rw (cell_is, cell, count) (sym (from_bar_lem (2 * n - 2) flat _ i h.0))
