-- `count_passing` meets its contract: the loop counts the cells one by one. Assumes nothing.
use Prim.Native.Nat.{◌≤◌}
use mathlib.Core.Bool.{Bool}
use lib.Ieee.{Float}
use Rattle.cells.specs.Line.{line}
use Rattle.ranks.specs.inner.Counting.{Answers, Counting}
use Rattle.ranks.proofs.count_passing.Given as goal

abbrev pub invariant-loop-x : goal.invariant-loop-x
invariant-loop-x g l =
    (l.passed ≤ l.x-index)
    × ((test : Float → Bool) → Answers test (goal.F-post g l.passes)
    → Counting test (line l.cells) 0 l.x-index l.passed)
