-- `or_of_bits` meets its contract: each turn adds one number's bits. Assumes nothing.
use Rattle.std.proofs.Common.{◌-◌, ◌≤◌}
use Rattle.values.specs.inner.Quick.{BitsOf}
use Rattle.cells.specs.Line.{line}
use Rattle.values.proofs.series.or_of_bits.Given as goal

abbrev pub invariant-loop-i : goal.invariant-loop-i
invariant-loop-i l = (l.i - l.first ≤ l.end - l.first) × BitsOf (line l.s) l.first (l.i - l.first) l.together
