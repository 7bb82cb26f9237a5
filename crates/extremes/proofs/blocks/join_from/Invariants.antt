-- `join_from` meets its contract: each turn joins one bar more to the bars from e on, and these to the window's
-- others. Assumes nothing.
use Prim.Native.Nat.{◌+◌, ◌-◌, ◌≤◌}
use lib.ListN.{length}
use Rattle.cells.specs.Line.{line}
use Rattle.extremes.specs.inner.Range.{RangeOf}
use Rattle.extremes.specs.inner.Windows.{Whole}
use Rattle.extremes.specs.inner.Part.{Replacing}
use Rattle.extremes.proofs.blocks.join_from.Given as goal

abbrev pub invariant-loop-i : goal.invariant-loop-i
invariant-loop-i l =
    (l.i ≤ l.last + 1) × RangeOf (line l.cells) l.e (l.i - 1) l.best
    × Replacing (length l.cells) l.e l.i (Whole l.cells l.n) l.initial.rows l.rows
