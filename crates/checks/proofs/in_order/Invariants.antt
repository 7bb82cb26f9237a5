-- `in_order` meets its contract: each turn looks at one bar. Assumes nothing.
use Rattle.std.proofs.Common.{◌≡◌}
use Rattle.cells.specs.Line.{line}
use Rattle.calls.specs.Answer.{in_order}
use Rattle.checks.proofs.in_order.Given as goal

abbrev pub invariant-loop-i : goal.invariant-loop-i
invariant-loop-i l = l.all ≡ in_order (line l.low) (line l.high) l.i
