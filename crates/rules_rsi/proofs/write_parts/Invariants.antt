-- `write_parts` meets its contract: each turn writes the part of a change. Assumes nothing.
use Rattle.std.proofs.Common.{◌+◌}
use lib.Ieee.{Float}
use Rattle.cells.specs.Written.{Writing}
use Rattle.rules_rsi.specs.inner.Stages.{Computes, with_parts}
use Rattle.rules_rsi.proofs.write_parts.Given as goal

abbrev pub invariant-loop-i : goal.invariant-loop-i
invariant-loop-i g l =
    (part : Float → Float) → Computes (goal.F-post g l.part) part
    → Writing (l.to + l.i) (with_parts part l.to l.initial.work) l.initial.work l.work
