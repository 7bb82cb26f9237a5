-- `fill` meets its contract: the loop writes cell after cell. Assumes nothing.
use Rattle.cells.specs.Written.{Writing}
use Rattle.cells.proofs.fill.Given as goal

abbrev pub invariant-loop-cell : goal.invariant-loop-cell
invariant-loop-cell g l = Writing l.cell-index (λ j. l.x) l.initial.cell-items l.cell-items
