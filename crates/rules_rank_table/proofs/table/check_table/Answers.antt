-- `check_table` meets its contract: the refusals stand in their order. Assumes nothing.
use Rattle.rules_rank_table.specs.Table.{table_checked}
use Rattle.rules_rank_table.proofs.table.check_table.Goals as goal

pub returns : goal.returns
unfolding table_checked
returns c =
    let counted = c.count_covers-covered.ensures in
    rw (
      c.unless_refused.ensures,
      c.unless_refused-uncovered.ensures,
      c.unless_refused-unknown.ensures,
      c.positions_known-known.ensures,
      counted.no_two,
      counted.no_gap,
      c.rows_read-rows.ensures,
    )
