-- `seed` meets its contract: the loop sums the gains and the losses of the bars 1 to n. Assumes nothing.
use Prim.Native.Nat.{◌-◌}
use Rattle.cells.specs.Line.{line, plus_zero}
use Rattle.windows.specs.inner.Sums.{Summing}
use Rattle.changes.specs.Changes.{gains, losses}
use Rattle.averages_wilder.proofs.seed.Given as goal

abbrev pub invariant-loop-i : goal.invariant-loop-i
invariant-loop-i l =
    Summing plus_zero (gains (line l.series)) 1 (l.i - 1) l.gain
    × Summing plus_zero (losses (line l.series)) 1 (l.i - 1) l.loss
