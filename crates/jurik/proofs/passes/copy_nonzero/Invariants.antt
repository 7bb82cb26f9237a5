-- `copy_nonzero` meets its contract: each turn writes a cell over its own value. Assumes nothing.
use Rattle.cells.specs.Line.{line, plus_zero}
use Rattle.cells.specs.Search.{non_zero}
use Rattle.cells.specs.Written.{Writing}
use Rattle.jurik.specs.Jurik.{copied}
use Rattle.jurik.proofs.passes.copy_nonzero.Given as goal

abbrev pub invariant-loop-i : goal.invariant-loop-i
invariant-loop-i l = Writing l.i (copied non_zero plus_zero (line l.initial.cells)) l.initial.cells l.cells
