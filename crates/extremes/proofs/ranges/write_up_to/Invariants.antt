-- `write_up_to` meets its contract: each turn joins the bar before to those up to e. Assumes nothing.
use Prim.Native.Nat.{◌+◌, ◌≤◌}
use lib.ListN.{length}
use Rattle.extremes.specs.inner.Windows.{UpTo}
use Rattle.extremes.specs.inner.Part.{Replacing}
use Rattle.extremes.proofs.ranges.write_up_to.Given as goal

abbrev pub invariant-loop-i : goal.invariant-loop-i
invariant-loop-i l =
    (l.e ≤ l.i) × UpTo l.cells l.n l.e l.i l.best
    × Replacing (length l.cells) l.i (l.last + 1) (UpTo l.cells l.n l.e) l.fn.rows l.rows
