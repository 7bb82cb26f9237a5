-- `write_outer_lines` meets its contract: each turn reads a width before it writes over it. Assumes nothing.
use native.Mathlib.Omega.{arith}
use Rattle.cells.proofs.Leads.{not_yet}
use Rattle.cells.proofs.Written.{one_more}
use Rattle.outer_lines.specs.OuterLines.{upper_line, lower_line}
use Rattle.outer_lines.proofs.write_outer_lines.Goals as goal

pub loop-i-preserved : goal.loop-i-preserved
unfolding upper_line lower_line
loop-i-preserved c =
    let at = c.loop-i in
    let width = not_yet at.i at.invariant.0 (omega arith) in
    (one_more at.invariant.0 (rw width) (omega arith), one_more at.invariant.1 (rw width) (omega arith))
