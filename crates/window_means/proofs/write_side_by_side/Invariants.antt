-- `write_side_by_side` meets its contract: each turn writes N means. Assumes nothing.
use Prim.Native.Nat.{◌-◌, ◌≤◌}
use lib.ListN.{length}
use Rattle.cells.specs.Line.{line}
use Rattle.cells.specs.Written.{Writing}
use Rattle.windows.specs.Window.{mean}
use Rattle.window_means.proofs.write_side_by_side.Given as goal

abbrev pub invariant-loop-i : goal.invariant-loop-i
invariant-loop-i g l = (l.from ≤ l.i) × (l.i ≤ length l.series)
    × Writing l.i (mean l.n (line l.series)) l.initial.means l.means

abbrev pub decreases-loop-i : goal.decreases-loop-i
decreases-loop-i g l = length l.series - l.i
