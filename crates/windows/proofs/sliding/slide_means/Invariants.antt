-- `slide_means` meets its contract: each turn moves the sum on by two bars and writes their means; then at most one
-- bar is left. Assumes nothing.
use Prim.Native.Nat.{◌-◌, ◌≤◌}
use lib.ListN.{length}
use Rattle.cells.specs.Line.{line}
use Rattle.cells.specs.Written.{Writing}
use Rattle.windows.specs.inner.Sums.{Running}
use Rattle.windows.specs.Window.{add_difference}
use Rattle.windows.specs.inner.Means.{running_mean, on_from}
use Rattle.windows.proofs.sliding.slide_means.Given as goal

abbrev pub invariant-loop-i : goal.invariant-loop-i
invariant-loop-i l =
    (l.n ≤ l.i) × (l.i ≤ length l.series) × Writing l.i (on_from l.n (running_mean l.n (line l.series)) l.initial.means)
    l.initial.means l.means
    × Running add_difference l.n (line l.series) l.i l.sum

abbrev pub decreases-loop-i : goal.decreases-loop-i
decreases-loop-i l = length l.series - l.i
