-- `blend_halves` meets its contract: each turn writes eight cells of either half, from the one before them there; the
-- last bars follow. Assumes nothing.
use Prim.Native.Nat.{◌+◌, ◌*◌}
use Rattle.cells.specs.Line.{line}
use Rattle.averages.proofs.Sides.{Sides}
use Rattle.averages.proofs.halves.blend_halves.Given as goal

abbrev pub invariant-loop-k : goal.invariant-loop-k
invariant-loop-k l =
    Sides l.alpha l.first l.seed (line l.series) (l.low + 8 * l.k) l.high (l.high + 8 * l.k) l.initial.out l.out
    l.last.lower l.last.upper
