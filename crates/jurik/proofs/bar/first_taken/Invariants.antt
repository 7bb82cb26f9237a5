-- `first_taken` meets its contract: each turn passes a bar that is not looked for. Assumes nothing.
use Rattle.cells.specs.Line.{line}
use Rattle.cells.proofs.Search.{NoneBefore}
use Rattle.jurik.specs.inner.Passes.{valid_by}
use Rattle.jurik.proofs.bar.first_taken.Given as goal

abbrev pub invariant-loop-i : goal.invariant-loop-i
invariant-loop-i l = NoneBefore (λ j. valid_by l.taken (line l.cells j)) l.i
