-- `write_from_mean` meets its contract: the first average is written, and each turn takes a step and writes the next
-- one. Assumes nothing.
use mathlib.Core.Path.{◌≡◌}
use Prim.Native.Nat.{◌-◌}
use Rattle.cells.specs.Line.{line}
use Rattle.cells.specs.Written.{Writing}
use Rattle.averages_wilder.specs.Wilder.{wilder}
use Rattle.averages_wilder.proofs.write_from_mean.Given as goal

abbrev pub invariant-loop-i : goal.invariant-loop-i
invariant-loop-i l =
    (l.last ≡ wilder l.n (l.n - 1) (line l.series) (l.i - 1))
    × Writing l.i (wilder l.n (l.n - 1) (line l.series)) l.fn.out l.out
