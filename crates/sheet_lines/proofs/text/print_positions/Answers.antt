-- `print_positions` meets its contract: each turn prints one position more. Assumes nothing.
use mathlib.Core.Path.{refl}
use Rattle.sheet_lines.proofs.Positions.{none_printed, one_printed}
use Rattle.sheet_lines.proofs.text.print_positions.Goals as goal

pub loop-i-init : goal.loop-i-init
loop-i-init c = none_printed

pub loop-i-preserved : goal.loop-i-preserved
loop-i-preserved c = one_printed c.loop-i.invariant refl c.print_position.ensures
