-- `print_positions` meets its contract: each turn prints one position more. Assumes nothing.
use Rattle.cells.specs.Line.{line}
use Rattle.sheet_lines.proofs.Positions.{Printed}
use Rattle.sheet_lines.proofs.text.print_positions.Given as goal

abbrev pub invariant-loop-i : goal.invariant-loop-i
invariant-loop-i l = Printed l.at l.i (line l.cells) l.initial.text l.text
