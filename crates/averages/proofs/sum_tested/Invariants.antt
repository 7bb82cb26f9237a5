-- `sum_tested` meets its contract: the loop sums and tests eight prices a turn, and then the rest. Assumes nothing.
use Prim.Native.Nat.{◌*◌}
use Rattle.cells.specs.Line.{line, minus_zero}
use Rattle.values.specs.Accepted.{accepted}
use Rattle.values.specs.inner.Part.{Passing}
use Rattle.windows.specs.inner.Sums.{Summing}
use Rattle.averages.proofs.sum_tested.Given as goal

abbrev pub invariant-loop-k : goal.invariant-loop-k
invariant-loop-k l = Passing accepted (line l.series) 0 (8 * l.k) l.accept
    × Summing minus_zero (line l.series) 0 (8 * l.k) l.sum
