-- `write_side_by_side` meets its contract: each turn writes N cells. Assumes nothing.
use Prim.Native.Nat.{◌-◌, ◌≤◌}
use lib.ListN.{length}
use Rattle.cells.specs.Written.{Writing}
use Rattle.oscillator.specs.inner.Begun.{afresh}
use Rattle.oscillator.proofs.write_side_by_side.Given as goal

abbrev pub invariant-loop-i : goal.invariant-loop-i
invariant-loop-i g l =
    (l.from ≤ l.i) × (l.i ≤ length l.pressures)
    × Writing l.i (afresh l.periods l.pressures l.ranges) l.initial.out l.out

abbrev pub decreases-loop-i : goal.decreases-loop-i
decreases-loop-i g l = length l.pressures - l.i
