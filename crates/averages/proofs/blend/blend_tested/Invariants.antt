-- `blend_tested` meets its contract: the loop blends the first half, and tests both. Assumes nothing.
use Prim.Native.Nat.{◌+◌, ◌*◌}
use Rattle.cells.specs.Line.{line}
use Rattle.values.specs.Accepted.{accepted}
use Rattle.averages.specs.inner.Blending.{Blending}
use Rattle.averages.proofs.TwoParts.{TwoParts}
use Rattle.averages.proofs.blend.blend_tested.Given as goal

abbrev pub invariant-loop-k : goal.invariant-loop-k
invariant-loop-k l =
    TwoParts accepted (line l.series) 0 (l.low + 8 * l.k) l.high (8 * l.k) l.accept
    × Blending l.alpha l.first l.initial.last (line l.series) (l.low + 8 * l.k) l.last
