-- `blend_both` meets its contract: each turn writes a cell of either part, from the one before it there. Assumes
-- nothing.
use Prim.Native.Nat.{◌+◌}
use Rattle.cells.specs.Line.{line}
use Rattle.cells.specs.inner.Recurring.{Recurring}
use Rattle.averages.specs.Blend.{blend}
use Rattle.averages.specs.inner.Smoothing.{both_stored}
use Rattle.averages.proofs.halves.blend_both.Given as goal

abbrev pub invariant-loop-k : goal.invariant-loop-k
invariant-loop-k l =
    Recurring l.initial.lower (λ k cell. blend l.alpha cell (line l.series (l.low + k))) l.k l.lower
    × Recurring l.initial.upper (λ k cell. blend l.alpha cell (line l.series (l.high + k))) l.k l.upper
    × Recurring l.initial.out (both_stored l.alpha (line l.series) l.initial.lower l.initial.upper l.low l.high) l.k
    l.out
