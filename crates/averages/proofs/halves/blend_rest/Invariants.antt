-- `blend_rest` meets its contract: each turn writes a cell, from the one before it. Assumes nothing.
use Prim.Native.Nat.{◌+◌, ◌-◌}
use Rattle.cells.specs.Line.{line}
use Rattle.cells.specs.inner.Recurring.{Recurring}
use Rattle.averages.specs.Blend.{blend}
use Rattle.averages.specs.inner.Smoothing.{stored}
use Rattle.averages.proofs.halves.blend_rest.Given as goal

abbrev pub invariant-loop-i : goal.invariant-loop-i
invariant-loop-i l =
    Recurring l.initial.cell (λ k cell. blend l.alpha cell (line l.series (l.from + k))) (l.i - l.from) l.cell
    × Recurring l.initial.out (stored l.alpha (line l.series) l.initial.cell l.from) (l.i - l.from) l.out
