-- `write_tick_positions` meets its contract: each turn writes the bar's cell. Assumes nothing.
use Rattle.cells.specs.Line.{line}
use Rattle.cells.specs.Written.{Writing}
use Rattle.rules_single.specs.Single.{single_line}
use Rattle.rules_single.proofs.write_tick_positions.Given as goal

abbrev pub invariant-loop-i : goal.invariant-loop-i
invariant-loop-i l = Writing l.i (single_line l.n (line l.series)) l.initial.out l.out
