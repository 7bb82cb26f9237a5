-- `average_from` meets its contract: the first value stands, and each turn blends the next value, which still stands,
-- into the average and writes it. Assumes nothing.
use mathlib.Core.Path.{◌≡◌}
use Prim.Native.Nat.{◌-◌}
use Rattle.cells.specs.Line.{line}
use Rattle.cells.specs.Recur.{carried}
use Rattle.cells.specs.Written.{Writing}
use Rattle.averages.specs.Blend.{blend}
use Rattle.jurik.proofs.passes.average_from.Given as goal

abbrev pub invariant-loop-i : goal.invariant-loop-i
invariant-loop-i l =
    let average = carried l.none (blend l.alpha) l.first (line l.initial.cells l.first) (line l.initial.cells) in
    Writing l.i average l.initial.cells l.cells × (l.last ≡ average (l.i - 1))
