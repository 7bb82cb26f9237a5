-- `largest` meets its contract: each turn takes the larger of two magnitudes. Assumes nothing.
use Rattle.rounding.specs.Leaves.{magnitude_of}
use Rattle.cells.specs.Line.{line, plus_zero}
use Rattle.cells.specs.inner.Recurring.{Recurring}
use Rattle.extremes.specs.Extreme.{larger}
use Rattle.margins.proofs.largest.Given as goal

abbrev pub invariant-loop-price : goal.invariant-loop-price
invariant-loop-price l = Recurring plus_zero (λ j m. larger m (magnitude_of (line l.series j))) l.price-index l.most
