-- `first_usable` meets its contract: each turn passes a mean that is 0, and the first other one ends the search.
-- Assumes nothing.
use Prim.Native.Nat.{◌-◌, ◌≤◌}
use lib.ListN.{length}
use Rattle.cells.specs.Line.{line}
use Rattle.cells.specs.Search.{non_zero}
use Rattle.cells.proofs.Search.{NoneBefore}
use Rattle.rules_ema.proofs.start.first_usable.Given as goal

abbrev pub invariant-loop-i : goal.invariant-loop-i
invariant-loop-i l = (l.i ≤ length l.means) × NoneBefore (λ j. non_zero (line l.means j)) l.i

abbrev pub decreases-loop-i : goal.decreases-loop-i
decreases-loop-i l = length l.means - l.i
