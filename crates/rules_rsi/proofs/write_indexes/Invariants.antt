-- `write_indexes` meets its contract: a few bars with each turn. Assumes nothing.
use Prim.Native.Nat.{◌-◌, ◌≤◌}
use lib.ListN.{length}
use Rattle.cells.specs.Line.{line}
use Rattle.cells.specs.Written.{Writing}
use Rattle.windows.specs.Window.{mean}
use Rattle.rules_rsi.specs.RsiReverse.{rsi_before}
use Rattle.rules_rsi.proofs.write_indexes.Given as goal

abbrev pub invariant-loop-i : goal.invariant-loop-i
invariant-loop-i l =
    (l.i ≤ length l.series) × Writing l.i (rsi_before l.n (mean l.n (line l.series))) l.initial.work l.work

abbrev pub decreases-loop-i : goal.decreases-loop-i
decreases-loop-i l = length l.series - l.i
