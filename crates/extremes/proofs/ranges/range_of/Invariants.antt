-- `range_of` meets its contract: each turn joins one bar. Assumes nothing.
use Prim.Native.Nat.{◌+◌}
use Rattle.cells.specs.Line.{line}
use Rattle.extremes.specs.inner.Range.{RangeOf}
use Rattle.extremes.proofs.ranges.range_of.Given as goal

abbrev pub invariant-loop-x : goal.invariant-loop-x
invariant-loop-x l = RangeOf (line l.cells) l.a (l.a + l.x-index) l.best
