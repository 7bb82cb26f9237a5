-- `each_passes` meets its contract: each turn adds the two tests of one number. Assumes nothing.
use mathlib.Core.Bool.{Bool}
use lib.Ieee.{Float}
use Rattle.cells.specs.Line.{line}
use Rattle.values.specs.inner.Part.{Answers}
use Rattle.values.proofs.Both.{Tested}
use Rattle.values.proofs.series.each_passes.Given as goal

abbrev pub invariant-loop-x : goal.invariant-loop-x
invariant-loop-x g l =
    (test : Float → Bool) → Answers test (goal.F-post g l.passes)
    → Tested test (line l.s) l.first l.x-index l.passed l.minus_zeros
