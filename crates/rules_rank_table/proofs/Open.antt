-- What is known of a call of `rank_table_positions` that was answered with cells. Assumes nothing.
use mathlib.Core.Path.{◌≡◌, refl, sym, ◌∙◌}
use mathlib.Core.Bool.{Bool, true, false, ◌&&◌, ◌||◌}
use mathlib.Core.List.{List, [], ◌∷◌}
use Prim.Native.Nat.{ℕ, ◌*◌, ◌<◌, ◌≤◌}
use native.Mathlib.Omega.{arith}
use lib.Dec.{leb, eqb}
use lib.IntN.{ℤ}
use lib.ListN.{length}
use lib.Ieee.{Float}
use Rattle.limits.specs.Limits.{longest_window, Window}
use Rattle.values.specs.Accepted.{accepted, all}
use Rattle.calls.specs.declared.Refusal.TheVariants.{WindowTooLong, CoveredTwice, NotCovered, PositionUnknown}
use Rattle.calls.specs.Answer.{Answer, count_of, cleared_of, unless, and_then, empty_if, checked, windowed, answered}
use Rattle.std.specs.Prelude.{Ok, Err}
use Rattle.calls.proofs.Call.{AllBars}
use Rattle.calls.proofs.Room.{Room, unless_cells, same_count, nonzero, or_parts, asked}
use Rattle.checks.specs.inner.Due.{CellsDue, Priced}
use Rattle.checks.proofs.Due.{some_due}
use Rattle.checks.proofs.Passed.{one_passed, one_clearable}
use Rattle.rules_rank_table.specs.Table.{Row, rows_read, cover_count, every_rank, is_position, table_checked}
use Rattle.rules_rank_table.specs.RankTable.{rank_table_answer}
use Rattle.rules_rank_table.specs.inner.Stages.{Counted, Known}

-- no number from -100 to 100 is covered twice, none is left out, and the positions are known
pub record Passed (rows : List Row) : Type 0 where
  pub covered : Counted rows 201 true true
  pub known : Known rows

-- a table that was taken
pub table_passed : (rows : List Row) (next : Answer) (k : ℕ) → table_checked rows next ≡ Ok k
    → Passed rows × (next ≡ Ok k)
unfolding table_checked
table_passed rows next k e =
    let a = unless_cells (every_rank (λ k. leb (cover_count k rows) 1)) CoveredTwice _ k e in
    let b = unless_cells (every_rank (λ k. leb 1 (cover_count k rows))) NotCovered _ k a.1 in
    let c = unless_cells (all (λ row. is_position row.position) rows) PositionUnknown next k b.1 in
    let covered : Counted rows 201 true true = record { no_two = sym a.0; no_gap = sym b.0 } in
    (record { covered = covered; known = record { each = c.0 } }, c.1)

-- ---- the answer, with the table and without

-- what is next is asked only where there are cells
module _ (a : Answer) (narrow none : Bool) {l : ℕ} (next : Answer) (bars : none ≡ false → 0 < l) where
  next_asked : 0 < count_of (and_then a (unless narrow WindowTooLong (empty_if none (Ok l))))
      → (and_then a (unless narrow WindowTooLong (empty_if none (Ok l))) ≡ Ok l)
      × (and_then a (unless narrow WindowTooLong (empty_if none next)) ≡ next)
  next_asked h = go a narrow none refl h
    where
      go : (a : Answer) (t u : Bool) → none ≡ u
          → 0 < count_of (and_then a (unless t WindowTooLong (empty_if u (Ok l))))
          → (and_then a (unless t WindowTooLong (empty_if u (Ok l))) ≡ Ok l)
          × (and_then a (unless t WindowTooLong (empty_if u next)) ≡ next)
      go (Err q) t u e h = let none : 0 < 0 = h in absurd (omega arith)
      go (Ok k) false u e h = let none : 0 < 0 = h in absurd (omega arith)
      go (Ok k) true true e h = let none : 0 < 0 = h in absurd (omega arith)
      go (Ok k) true false e h = (refl, refl)

  not_asked : count_of (and_then a (unless narrow WindowTooLong (empty_if none (Ok l)))) ≡ 0
      → and_then a (unless narrow WindowTooLong (empty_if none (Ok l)))
      ≡ and_then a (unless narrow WindowTooLong (empty_if none next))
  not_asked z = go a narrow none refl z
    where
      go : (a : Answer) (t u : Bool) → none ≡ u
          → count_of (and_then a (unless t WindowTooLong (empty_if u (Ok l)))) ≡ 0
          → and_then a (unless t WindowTooLong (empty_if u (Ok l)))
          ≡ and_then a (unless t WindowTooLong (empty_if u next))
      go (Err q) t u e z = refl
      go (Ok k) false u e z = refl
      go (Ok k) true true e z = refl
      go (Ok k) true false e z = let some = bars e in let none : l ≡ 0 = z in absurd (omega arith)

module _ (s : List Float) (n : ℕ) (table : List ℤ) (output work : ℕ) {due : Answer}
    (e : due ≡ answered accepted s (n ∷ []) output (work ∷ [])) where
  bars_of : eqb (length s) 0 || (eqb n 0 || false) ≡ false → 0 < length s
  bars_of z = nonzero (length s) (or_parts (eqb (length s) 0) (eqb n 0 || false) z).0

  -- with cells to write the table decides
  pub table_asked : 0 < count_of due → table_checked (rows_read table) due ≡ rank_table_answer s n table output work
  unfolding rank_table_answer answered windowed
  table_asked h =
      let (cells, next) =
      next_asked (checked accepted (s ∷ []) (output ∷ []) (work ∷ [])) (leb n longest_window && true)
      (eqb (length s) 0 || (eqb n 0 || false)) (table_checked (rows_read table) (Ok (length s))) bars_of (rw e at h)
      in
      rw (e, cells) (sym next)

  -- without, it is not looked at
  pub table_left : count_of due ≡ 0 → due ≡ rank_table_answer s n table output work
  unfolding rank_table_answer answered windowed
  table_left z =
      e ∙ not_asked (checked accepted (s ∷ []) (output ∷ []) (work ∷ [])) (leb n longest_window && true)
      (eqb (length s) 0 || (eqb n 0 || false)) (table_checked (rows_read table) (Ok (length s))) bars_of (rw e at z)

-- ---- a call with cells

-- its window is open, its table was taken, and it has a cell for each bar
pub record Opened (s : List Float) (n : ℕ) (table : List ℤ) (output work k : ℕ) : Type 0 where
  pub room : Room accepted s output (work ∷ [])
  pub window : Window n
  pub passed : Passed (rows_read table)
  pub bars : k ≡ length s

pub rank_table_opened : (s : List Float) (n : ℕ) (table : List ℤ) (output work : ℕ) {r : Answer}
    → r ≡ rank_table_answer s n table output work → 0 < count_of r → Opened s n table output work (count_of r)
unfolding rank_table_answer windowed
rank_table_opened s n table output work {r} e h =
    let (room, next) = one_passed s output work _ e h in
    let a = asked (length s) [] (n ∷ []) [] _ (count_of r) next h in
    let (passed, count) = table_passed (rows_read table) (Ok (length s)) (count_of r) a.rest in
    record { room = room; window = a.each.0; passed = passed; bars = sym (same_count _ _ count) }

pub rank_table_bars : (s : List Float) (n : ℕ) (table : List ℤ) (output work : ℕ)
    → AllBars (rank_table_answer s n table output work) (length s)
rank_table_bars s n table output work k e h = (rank_table_opened s n table output work (sym e) h).bars

-- its work slice has room to be cleared
pub rank_table_clearable : (s : List Float) (n : ℕ) (table : List ℤ) (output work : ℕ) {r : Answer}
    → r ≡ rank_table_answer s n table output work → cleared_of r (8 * length s) ≤ work
unfolding rank_table_answer
rank_table_clearable s n table output work e = one_clearable s output work _ e

-- where its cells are due, its prices are accepted, the work slice has eight rows, and its positions are known
pub rank_table_priced : (s : List Float) (n : ℕ) (table : List ℤ) (output : ℕ) {r : Answer} {t : Bool}
    {work₀ work₁ : List Float}
    → r ≡ rank_table_answer s n table output (length work₀) → CellsDue r (length s) t work₀ work₁ → t ≡ true
    → Priced 8 n s output (length work₁) × Known (rows_read table)
rank_table_priced s n table output {work₀ = work₀} {work₁} e d y =
    let o = rank_table_opened s n table output (length work₀) e (some_due (rw y at d)) in
    let priced : Priced 8 n s output (length work₁) = record {
      window = o.window;
      short = o.room.short;
      out_long = o.room.out_long;
      work_long = rw d.long o.room.work_long.0;
      values = o.room.values;
    } in
    (priced, o.passed.known)
