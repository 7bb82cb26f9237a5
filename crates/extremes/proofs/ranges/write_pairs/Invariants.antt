-- `write_pairs` meets its contract: each turn writes the range of one window. Assumes nothing.
use Prim.Native.Nat.{◌+◌, ◌≤◌, min}
use lib.ListN.{length}
use Rattle.extremes.specs.inner.Windows.{Whole}
use Rattle.extremes.specs.inner.Part.{Replacing}
use Rattle.extremes.proofs.ranges.write_pairs.Given as goal

abbrev pub invariant-loop-i : goal.invariant-loop-i
invariant-loop-i l = (l.n ≤ l.i + 1)
    × Replacing (length l.cells) 0 (min l.i (length l.cells)) (Whole l.cells l.n) l.initial.rows l.rows
