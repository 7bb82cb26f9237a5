-- `all_far` meets its contract: each turn looks at one more bar. Assumes nothing.
use Prim.Native.Nat.{◌≤◌, max}
use lib.ListN.{length}
use Rattle.cells.specs.Line.{line}
use Rattle.margins.specs.inner.Margin.{far, AllFar}
use Rattle.margins.proofs.all_far.Given as goal

abbrev pub invariant-loop-i : goal.invariant-loop-i
invariant-loop-i l = (l.i ≤ max l.first (length l.series))
    × AllFar l.far l.first (λ j. far l.d (line l.series j) (line l.averages j)) l.i
