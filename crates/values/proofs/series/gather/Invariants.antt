-- `gather` meets its contract: each turn adds one number's bits and its test. Assumes nothing.
use Rattle.cells.specs.Line.{line}
use Rattle.values.specs.inner.Quick.{BitsOf}
use Rattle.values.specs.inner.Fraction.{comes_back}
use Rattle.values.specs.inner.Part.{Passing}
use Rattle.values.proofs.series.gather.Given as goal

abbrev pub invariant-loop-x : goal.invariant-loop-x
invariant-loop-x l =
    BitsOf (line l.s) 0 l.x-index l.bits × Passing comes_back (line l.s) 0 l.x-index l.whole
