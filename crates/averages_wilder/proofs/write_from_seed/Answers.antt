-- `write_from_seed` meets its contract: the first cell is written, and at each turn the averages take a step, their
-- cell
-- is written and the bar's work cells are cleared. Assumes nothing.
use mathlib.Core.Path.{◌∙◌}
use native.Mathlib.Omega.{arith}
use lib.Ieee.{of_bits}
use Rattle.averages_wilder.proofs.Stages.{rsi_at, same_bar}
use Rattle.cells.proofs.Finished.{one_finished}
use Rattle.averages_wilder.proofs.write_from_seed.Goals as goal

pub loop-i-init : goal.loop-i-init
unfolding of_bits
loop-i-init c =
    let room = c.requires.room.0 in
    let seed = c.seed-averages.ensures in
    let value = c.cell.ensures ∙ rsi_at _ _ _ _ seed (omega arith) in
    (same_bar seed (omega arith), one_finished c.requires.indexed value c.put.ensures (omega arith))

pub loop-i-preserved : goal.loop-i-preserved
unfolding of_bits
loop-i-preserved c =
    let at = c.loop-i in
    let room = c.requires.room.0 in
    let next = c.next-averages.ensures in
    let value = c.cell-in-loop-i.ensures ∙ rsi_at _ _ _ _ next (omega arith) in
    (same_bar next (omega arith), one_finished at.invariant.1 value c.put-in-loop-i.ensures (omega arith))
