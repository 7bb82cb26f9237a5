-- `write_scaled` meets its contract: each turn reads a mean that still stands and its range, and writes the bar's cell.
-- Assumes nothing.
use Rattle.cells.specs.Line.{line}
use Rattle.cells.specs.Written.{Writing}
use Rattle.rules_mms.specs.Mms.{mms_line}
use Rattle.rules_mms.proofs.write_scaled.Given as goal

abbrev pub invariant-loop-i : goal.invariant-loop-i
invariant-loop-i l = Writing l.i (mms_line l.n l.w (line l.series)) l.initial.out l.out
