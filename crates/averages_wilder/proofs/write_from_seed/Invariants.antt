-- `write_from_seed` meets its contract: the first cell is written, and at each turn the averages take a step, their
-- cell
-- is written and the bar's work cells are cleared. Assumes nothing.
use Prim.Native.Nat.{◌-◌}
use Rattle.cells.specs.Line.{line}
use Rattle.averages_wilder.specs.inner.Averaged.{Averaged, Indexed}
use Rattle.averages_wilder.proofs.write_from_seed.Given as goal

abbrev pub invariant-loop-i : goal.invariant-loop-i
invariant-loop-i l =
    Averaged l.n (line l.series) (l.i - 1) l.averages × Indexed l.n l.series l.i l.fn.out l.out l.fn.work l.work
