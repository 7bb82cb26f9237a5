-- `print_leading` meets its contract: the loop prints from the last column to the first. Assumes nothing.
use Prim.Native.Nat.{◌≤◌}
use Rattle.sheet_lines.proofs.Printing.{Filled}
use Rattle.sheet_lines.proofs.columns.print_leading.Given as goal

abbrev pub invariant-loop-i : goal.invariant-loop-i
invariant-loop-i l = (l.from ≤ l.i) × Filled l.from l.to l.n l.initial.text l.i l.rest l.text
