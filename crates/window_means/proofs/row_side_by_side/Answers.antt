-- `row_side_by_side` meets its contract: each turn writes N means. Assumes nothing.
use native.Mathlib.Omega.{arith}
use Rattle.cells.proofs.Written.{ends}
use Rattle.windows.proofs.Lanes.{lanes_moved}
use Rattle.window_means.proofs.Row.{none_of_row, for_row}
use Rattle.window_means.proofs.Storing.{lanes_stored}
use Rattle.window_means.proofs.row_side_by_side.Goals as goal

pub loop-i-init : goal.loop-i-init
loop-i-init g c = (omega arith, omega arith, none_of_row _ _ _ _ _)

pub loop-i-preserved : goal.loop-i-preserved
loop-i-preserved g c =
    let room = c.requires.room in
    let w = c.loop-i.invariant.2 in
    let moved = lanes_moved c.means_side_by_side-lanes.ensures
    (for_row room w (omega arith) c.loop-i.i (omega arith)) in
    (omega arith, omega arith, ends (lanes_stored _ w moved c.store.ensures (omega arith)) (omega arith))
