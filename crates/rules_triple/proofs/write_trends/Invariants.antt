-- `write_trends` meets its contract: each turn reads a bar's four averages and writes its position. Assumes nothing.
use Rattle.cells.specs.Line.{line}
use Rattle.cells.specs.Written.{Writing}
use Rattle.rules_triple.specs.Triple.{triple_line}
use Rattle.rules_triple.proofs.write_trends.Given as goal

abbrev pub invariant-loop-i : goal.invariant-loop-i
invariant-loop-i l = Writing l.i (triple_line l.m1 l.m2 l.m3 (line l.series)) l.initial.out l.out
