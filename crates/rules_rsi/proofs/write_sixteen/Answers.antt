-- `write_sixteen` meets its contract: the sums of both rows, and an index with each turn. Assumes nothing.
use Rattle.std.proofs.Common.{◌∙◌}
use Prim.Native.Nat.{◌+◌}
use native.Mathlib.Omega.{arith}
use Rattle.cells.specs.Line.{line}
use Rattle.cells.proofs.Written.{step}
use Rattle.windows.specs.Window.{mean}
use Rattle.rules_rsi.proofs.Rows.{either_gains, either_losses, full_sum, full_index}
use Rattle.rules_rsi.proofs.write_sixteen.Goals as goal

pub loop-lane-preserved : goal.loop-lane-preserved
loop-lane-preserved c =
    let a = c.args in
    let pre = c.requires.indexes_before in
    let some = pre.window.some in
    let h = c.requires.n_bound in
    let room = pre.changes.room in
    let g = mean a.n (line a.series.now) in
    let lane = c.loop-lane.lane in
    let up = c.sums_side_by_side-up.ensures.lane lane (omega arith)
    ∙ full_sum pre.changes.up (either_gains g) a.n a.i (omega arith) lane (omega arith) in
    let down = c.sums_side_by_side-down.ensures.lane lane (omega arith)
    ∙ full_sum pre.changes.down (either_losses g) a.n a.i (omega arith) lane (omega arith) in
    let cell = c.index_by.ensures ∙ full_index a.n (a.i + lane) g up down (omega arith) in
    step _ _ c.loop-lane.invariant cell (omega arith)
