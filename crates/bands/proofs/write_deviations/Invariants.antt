-- `write_deviations` meets its contract: the lead, and a few bars with each turn. Assumes nothing.
use Prim.Native.Nat.{◌-◌, ◌≤◌, min}
use lib.ListN.{length}
use Rattle.cells.specs.Line.{line, plus_zero}
use Rattle.cells.specs.Written.{Writing}
use Rattle.deviations.specs.Deviation.{deviation}
use Rattle.bands.proofs.write_deviations.Given as goal

abbrev pub invariant-loop-i : goal.invariant-loop-i
invariant-loop-i l =
    (min (l.n - 1) (length l.close) ≤ l.i) × (l.i ≤ length l.close)
    × Writing l.i (deviation plus_zero (l.n - 1) l.n (line l.close)) l.initial.out l.out

abbrev pub decreases-loop-i : goal.decreases-loop-i
decreases-loop-i l = length l.close - l.i
