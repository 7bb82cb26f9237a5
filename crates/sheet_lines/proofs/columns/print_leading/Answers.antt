-- `print_leading` meets its contract: the loop prints from the last column to the first. Assumes nothing.
use Prim.Native.Nat.{◌-◌}
use native.Mathlib.Omega.{arith}
use Rattle.sheet_lines.proofs.Printing.{none_filled, one_filled, all_filled}
use Rattle.sheet_lines.proofs.columns.print_leading.Goals as goal

pub loop-i-init : goal.loop-i-init
loop-i-init c = (omega arith, none_filled)

pub loop-i-preserved : goal.loop-i-preserved
loop-i-preserved c =
    let at = c.loop-i in
    (omega arith, one_filled _ (at.i - 1) at.invariant.1 c.last_column.ensures (omega arith))

pub returns : goal.returns
returns c = all_filled c.loop-i.invariant.1 (omega arith)
