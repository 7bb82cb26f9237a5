-- `write_by_count` meets its contract: each turn counts the means below and writes the position that the count picks.
-- Assumes nothing.
use Rattle.cells.specs.Line.{line}
use Rattle.cells.specs.Written.{Writing}
use Rattle.rules_rank.specs.Rank.{rank_line}
use Rattle.rules_rank.proofs.write_by_count.Given as goal

abbrev pub invariant-loop-i : goal.invariant-loop-i
invariant-loop-i l = Writing l.i (rank_line l.n (line l.series)) l.initial.out l.out
