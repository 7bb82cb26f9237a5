-- `divided` meets its contract: each turn divides one lane. Assumes nothing.
use Rattle.cells.specs.Line.{line}
use Rattle.cells.specs.Written.{Writing}
use Rattle.windows.specs.Window.{over}
use Rattle.windows.proofs.divided.Given as goal

abbrev pub invariant-loop-sum : goal.invariant-loop-sum
invariant-loop-sum g l = Writing l.sum-index (λ k. over l.n (line l.fn.sums k)) l.fn.sums l.sum-items
