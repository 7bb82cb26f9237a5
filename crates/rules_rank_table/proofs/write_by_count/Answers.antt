-- `write_by_count` meets its contract: each turn counts the means below and writes the position that the count picks.
-- Assumes nothing.
use mathlib.Core.Path.{◌∙◌}
use native.Mathlib.Omega.{arith}
use borrow.Author.Rules.{rules}
use mir.Syntax.{w32}
use mir.ValLaws.{to_z-of_z}
use lib.Ieee.Casts.{to_signed_in}
use Rattle.cells.proofs.Leads.{lead_stands, lead_then}
use Rattle.cells.proofs.Written.{one_more}
use Rattle.rules_rank_table.specs.RankTable.{rank_table_line}
use Rattle.rules_rank_table.proofs.Picked.{castable_cell, picked}
use Rattle.rules_rank_table.proofs.write_by_count.Goals as goal

pub loop-i-init : goal.loop-i-init
loop-i-init c = unfold rank_table_line in search (rules, lead_stands)

pub float_to_int-out : goal.float_to_int-out
float_to_int-out c =
    let pre = c.requires in
    castable_cell pre.table_rows c.loop-i.i c.count_below-below.ensures (omega arith)

pub loop-i-preserved : goal.loop-i-preserved
loop-i-preserved c =
    let pre = c.requires in
    let position = picked pre.table_rows c.loop-i.i c.count_below-below.ensures (omega arith) in
    let cell = to_z-of_z w32 _ (record { sfits = to_signed_in 31 _ }) ∙ position in
    one_more c.loop-i.invariant cell (omega arith)

pub returns : goal.returns
returns c = lead_then c.fill_flat-first.ensures c.loop-i.invariant (omega arith)
