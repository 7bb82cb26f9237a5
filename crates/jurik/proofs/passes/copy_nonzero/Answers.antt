-- `copy_nonzero` meets its contract: each turn writes a cell over its own value. Assumes nothing.
use mathlib.Core.Path.{◌≡◌}
use native.Mathlib.Omega.{arith}
use lib.Ieee.{ne, of_bits}
use Rattle.cells.specs.Line.{line, plus_zero}
use Rattle.cells.specs.Search.{non_zero}
use Rattle.cells.proofs.Written.{one_more}
use Rattle.cells.proofs.Leads.{not_yet}
use Rattle.jurik.specs.Jurik.{copied}
use Rattle.jurik.proofs.passes.copy_nonzero.Goals as goal
use Rattle.jurik.proofs.passes.copy_nonzero.Goals.{then-cells-i, else-cells-i}

pub loop-i-preserved : goal.loop-i-preserved
unfolding copied ne of_bits
loop-i-preserved c =
    let i = c.loop-i.i in
    let stood = not_yet i c.loop-i.invariant (omega arith) in
    let value : c.if-cells-i.cells ≡ copied non_zero plus_zero (line c.args.cells.now) i =
    elim c.if-cells-i.branch [
      | then-cells-i w ↦ rw (← stood, w.if-cells-i.true) w.cells-is
      | else-cells-i w ↦ rw (← stood, w.if-cells-i.false) w.cells-is
    ] in
    one_more c.loop-i.invariant value (omega arith)
