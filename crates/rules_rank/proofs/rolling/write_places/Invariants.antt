-- `write_places` meets its contract: each turn writes one bar's place. Assumes nothing.
use Rattle.cells.specs.Line.{line}
use Rattle.cells.specs.Written.{Writing}
use Rattle.rules_rank.specs.RollingRank.{rolling_rank_line}
use Rattle.rules_rank.proofs.rolling.write_places.Given as goal

abbrev pub invariant-loop-i : goal.invariant-loop-i
invariant-loop-i l = Writing l.i (rolling_rank_line l.window (line l.series)) l.initial.out l.out
