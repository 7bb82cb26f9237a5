-- `write_steps` meets its contract: each turn reads the last two cells back, and writes the next. Assumes nothing.
use Rattle.cells.specs.Line.{line}
use Rattle.cells.specs.Written.{Writing}
use Rattle.smoother.specs.Smoother.{smooth}
use Rattle.smoother.proofs.write_steps.Given as goal

abbrev pub invariant-loop-i : goal.invariant-loop-i
invariant-loop-i l = Writing l.i (smooth l.c (line l.price)) l.initial.out l.out
