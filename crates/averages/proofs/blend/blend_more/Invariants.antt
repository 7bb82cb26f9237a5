-- `blend_more` meets its contract: each turn blends one price. Assumes nothing.
use Prim.Native.Nat.{◌+◌}
use Rattle.cells.specs.Line.{line}
use Rattle.cells.specs.inner.Recurring.{Recurring}
use Rattle.averages.specs.Blend.{blend}
use Rattle.averages.proofs.blend.blend_more.Given as goal

abbrev pub invariant-loop-price : goal.invariant-loop-price
invariant-loop-price l =
    Recurring l.last (λ k cell. blend l.alpha cell (line l.series (l.at + k))) l.price-index l.cell
