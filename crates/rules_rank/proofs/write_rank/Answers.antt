-- `write_rank` meets its contract: the means and the positions in two rows, and what the counts pick of them.
-- Assumes nothing.
use native.Mathlib.Omega.{arith}
use borrow.Author.Rules.{rules}
use lib.Ieee.{of_bits}
use Rattle.cells.proofs.RowWrites.{lent_on}
use Rattle.cells.proofs.Touched.{touched, touched_more, untouched}
use Rattle.cells.proofs.Written.{stands}
use Rattle.rules_rank.proofs.Cells.{none_ranked}
use Rattle.rules_rank.proofs.write_rank.Goals as goal

pub write_by_count-requires : goal.write_by_count-requires
write_by_count-requires c =
    let pre = c.requires in
    let rows = lent_on c.write_means_of_prices.ensures c.write_positions.ensures (omega arith) in
    let long = rows.long in
    (record {
      rank_rows = record { window = pre.window; due = omega arith; room = omega arith; rows = stands rows };
      series_in_bounds = search rules;
    })

pub returns-then-bars-n : goal.returns-then-bars-n
returns-then-bars-n c =
    let rows = lent_on c.write_means_of_prices.ensures c.write_positions.ensures (omega arith) in
    (c.write_by_count.ensures, touched_more (touched rows) (omega arith))

pub returns-else-bars-n : goal.returns-else-bars-n
returns-else-bars-n c = unfold of_bits in (none_ranked _ _ c.fill.ensures (omega arith), untouched)
