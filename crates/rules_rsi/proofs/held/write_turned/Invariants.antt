-- `write_turned` meets its contract: each turn reads a bar's index, moves the position, and writes it. Assumes nothing.
use Rattle.cells.specs.Line.{line}
use Rattle.cells.specs.Written.{Writing}
use Rattle.cells.specs.inner.Recurring.{Recurring}
use Rattle.rules_held.specs.Held.{flat, moved}
use Rattle.rules_rsi.specs.RsiReverse.{turns_at, turned}
use Rattle.rules_rsi.proofs.held.write_turned.Given as goal

abbrev pub invariant-loop-i : goal.invariant-loop-i
invariant-loop-i l =
    Writing l.i (turned l.upper l.lower l.exit (line l.indexes)) l.initial.out l.out
    × Recurring flat (λ b z. moved z (turns_at l.upper l.lower l.exit (line l.indexes b))) l.i l.position
