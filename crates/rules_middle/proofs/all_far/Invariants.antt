-- `all_far` meets its contract: each turn looks at one more bar. Assumes nothing.
use Prim.Native.Nat.{◌+◌, ◌≤◌, max}
use Rattle.cells.specs.Line.{line}
use Rattle.margins.specs.inner.Margin.{far_from_middle, AllFar}
use Rattle.rules_middle.proofs.all_far.Given as goal

abbrev pub invariant-loop-i : goal.invariant-loop-i
invariant-loop-i l = (l.i ≤ max l.first l.bars)
    × AllFar l.far l.first (λ j. far_from_middle l.d (line l.means j) (line l.rows j) (line l.rows (l.bars + j))) l.i
