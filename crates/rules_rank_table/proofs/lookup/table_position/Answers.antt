-- `table_position` meets its contract: the rank is an i32, and is looked up. Assumes nothing.
use borrow.Author.Rules.{sfits_of}
use mir.Syntax.{w32}
use mir.ValLaws.{to_z-of_z}
use lib.Ieee.{binary64, add, of_bits, to_signed}
use lib.Ieee.Casts.{to_signed_in}
use Rattle.cells.specs.Line.{plus_zero}
use mathlib.Core.List.{map}
use Rattle.rules_rank_table.specs.inner.Stages.{row_of}
use Rattle.rules_rank_table.proofs.Ranks.{castable, same_number, looked_up}
use Rattle.rules_rank_table.proofs.lookup.table_position.Goals as goal

pub float_to_int-rank : goal.float_to_int-rank
unfolding of_bits
float_to_int-rank c = rw c.whole_rank-rank.ensures (castable c.requires)

pub returns : goal.returns
unfolding of_bits
returns c =
    let rank = c.whole_rank-rank in
    let number = to_signed 31 (add binary64 rank.result plus_zero) in
    rw (
      to_z-of_z w32 c.position_for.result (sfits_of c.position_for.type_inv),
      c.position_for.ensures,
      to_z-of_z w32 number (record { sfits = to_signed_in 31 _ }),
      rank.ensures,
      same_number c.requires,
      looked_up c.requires (map row_of c.args.rows.now),
    )
