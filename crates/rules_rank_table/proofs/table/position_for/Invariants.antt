-- `position_for` meets its contract: no row that was asked covers k. Assumes nothing.
use mathlib.Core.Path.{◌≡◌}
use mathlib.Core.List.{map}
use lib.ListN.{drop}
use Rattle.rules_rank_table.specs.Table.{position_for}
use Rattle.rules_rank_table.specs.inner.Stages.{row_of}
use Rattle.rules_rank_table.proofs.table.position_for.Given as goal

abbrev pub invariant-loop-row : goal.invariant-loop-row
invariant-loop-row l = position_for l.k (map row_of l.rows) ≡ position_for l.k (map row_of (drop l.row-index l.rows))
