-- `write_index` meets its contract: NaN at bar 0, and then a step of both averages and their index. Assumes nothing.
use mathlib.Core.Path.{◌∙◌, refl}
use native.Mathlib.Omega.{arith}
use lib.Ieee.{of_bits}
use Rattle.cells.specs.Line.{from_bar}
use Rattle.cells.proofs.Written.{none_written, one_more}
use Rattle.rsx.specs.Rsx.{rsx_unsmoothed}
use Rattle.rsx.proofs.Stages.{none_averaged, index_at, same_bar}
use Rattle.rsx.proofs.write_index.Goals as goal

pub loop-i-init : goal.loop-i-init
unfolding rsx_unsmoothed from_bar of_bits
loop-i-init c = (none_averaged _ _, one_more none_written refl (omega arith))

pub loop-i-preserved : goal.loop-i-preserved
unfolding of_bits
loop-i-preserved c =
    let at = c.loop-i in
    let cell = c.strength_index.ensures ∙ index_at _ _ _ _ c.next-averages.ensures (omega arith) in
    (same_bar c.next-averages.ensures (omega arith), one_more at.invariant.1 cell (omega arith))
