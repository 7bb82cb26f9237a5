-- `add_row` meets its contract: each turn adds one position to its cell. Assumes nothing.
use Prim.Native.Nat.{◌+◌}
use lib.IntN.{◌*ℤ◌}
use Rattle.cells.specs.Line.{line}
use Rattle.rules.specs.Position.{whole_position}
use Rattle.basket.specs.inner.Adding.{Added}
use Rattle.basket.proofs.nets.add_row.Given as goal

abbrev pub invariant-loop-j : goal.invariant-loop-j
invariant-loop-j l =
    Added l.first l.j (λ i. l.weight *ℤ whole_position (line l.positions (l.from + i))) l.initial.out l.out
