-- `write_positions` meets its contract: each turn writes one position. Assumes nothing.
use Rattle.cells.specs.Written.{Writing}
use Rattle.rules_rank_table.specs.Table.{rows_read}
use Rattle.rules_rank_table.specs.inner.Stages.{position_cell}
use Rattle.rules_rank_table.proofs.lookup.write_positions.Given as goal

abbrev pub invariant-loop-below : goal.invariant-loop-below
invariant-loop-below l = Writing l.below (position_cell (rows_read l.numbers) l.n) l.initial.positions l.positions
