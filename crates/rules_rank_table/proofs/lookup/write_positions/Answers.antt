-- `write_positions` meets its contract: each turn writes one position. Assumes nothing.
use native.Mathlib.Omega.{arith}
use borrow.Author.Rules.{rules, sfits_of}
use mir.Syntax.{w32}
use mir.ValLaws.{to_z-of_z}
use Rattle.cells.proofs.Written.{none_written, one_more, ends}
use Rattle.rules_rank_table.proofs.lookup.write_positions.Goals as goal

pub loop-below-init : goal.loop-below-init
loop-below-init c = search (rules, none_written)

pub loop-below-preserved : goal.loop-below-preserved
loop-below-preserved c =
    let call = c.table_position in
    let same = to_z-of_z w32 call.result (sfits_of call.type_inv) in
    one_more c.loop-below.invariant (rw (same, call.ensures, c.rows_read-rows.ensures)) (omega arith)

pub returns : goal.returns
returns c = ends c.loop-below.invariant (omega arith)
