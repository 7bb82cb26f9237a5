-- `row_side_by_side` meets its contract: each turn writes N means. Assumes nothing.
use Prim.Native.Nat.{◌+◌, ◌-◌, ◌≤◌}
use Rattle.cells.specs.Written.{Writing}
use Rattle.window_means.specs.inner.Row.{means_of_row}
use Rattle.window_means.proofs.row_side_by_side.Given as goal

abbrev pub invariant-loop-i : goal.invariant-loop-i
invariant-loop-i g l =
    (l.first ≤ l.i) × (l.i ≤ l.bars) × Writing (l.to + l.i) (means_of_row l.from l.to l.n l.first l.initial.cells)
    l.initial.cells l.cells

abbrev pub decreases-loop-i : goal.decreases-loop-i
decreases-loop-i g l = l.bars - l.i
