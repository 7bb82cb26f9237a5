-- `write_rank_table` meets its contract: the means and the positions in two rows, and what the counts pick of them.
-- Assumes nothing.
use Prim.Native.Nat.{◌-◌, ◌*◌, ◌<◌, ◌≤◌}
use native.Mathlib.Omega.{arith}
use borrow.Author.Rules.{rules}
use borrow.Author.Tests.{ltb-true, ltb-false, lt-ltb}
use lib.Dec.{ltb}
use lib.ListN.{length}
use Rattle.values.proofs.All.{and_parts}
use Rattle.cells.proofs.RowWrites.{lent_on}
use Rattle.cells.proofs.Touched.{touched, touched_more, untouched}
use Rattle.cells.proofs.Written.{stands}
use Rattle.rules_rank_table.proofs.Picked.{none_ranked}
use Rattle.rules_rank_table.proofs.write_rank_table.Goals as goal
use Rattle.rules_rank_table.proofs.write_rank_table.Goals.{Then-n-bars}

-- where a bar has a rank
ranked : (c : Then-n-bars) → let a = c.args in
    (1 < a.n) × (2 * a.n - 2 < length a.series.now)
ranked c =
    let a = c.args in
    let both = and_parts (ltb 1 a.n) (ltb (2 * a.n - 2) (length a.series.now)) c.if-n-bars.true in
    (ltb-true _ _ both.0, ltb-true _ _ both.1)

pub write_positions-requires : goal.write_positions-requires
write_positions-requires c =
    let (two, due) = ranked (goal.at.write_positions-requires c).Then-n-bars in
    (record { some = omega arith; narrow = omega arith; part = omega arith }, search rules)

pub write_by_count-requires : goal.write_by_count-requires
write_by_count-requires c =
    let pre = c.requires in
    let (two, due) = ranked (goal.at.write_by_count-requires c).Then-n-bars in
    let rows = lent_on c.write_means_of_prices.ensures c.write_positions.ensures (omega arith) in
    let long = rows.long in (record {
      table_rows = record {
        window = two;
        narrow = pre.priced.window.narrow;
        due = due;
        room = omega arith;
        known = pre.known;
        cells = stands rows;
      };
      series_in_bounds = search rules;
    })

pub returns-then-n-bars : goal.returns-then-n-bars
returns-then-n-bars c =
    let rows = lent_on c.write_means_of_prices.ensures c.write_positions.ensures (omega arith) in
    let (two, due) = ranked (goal.at.returns-then-n-bars c).Then-n-bars in
    (c.write_by_count.ensures, touched_more (touched rows) (omega arith))

pub returns-else-n-bars : goal.returns-else-n-bars
returns-else-n-bars c =
    let a = c.args in
    let few : 1 < a.n → length a.series.now ≤ 2 * a.n - 2 = λ two.
    ltb-false (2 * a.n - 2) (length a.series.now) (rw (lt-ltb 1 a.n two) at c.if-n-bars.false) in
    (none_ranked _ _ _ c.requires.priced.window.some few c.fill_flat.ensures, untouched)
