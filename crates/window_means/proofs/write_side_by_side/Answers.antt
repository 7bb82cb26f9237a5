-- `write_side_by_side` meets its contract: each turn writes N means. Assumes nothing.
use native.Mathlib.Omega.{arith}
use Rattle.window_means.proofs.Storing.{lanes_stored}
use Rattle.window_means.proofs.write_side_by_side.Goals as goal

pub loop-i-preserved : goal.loop-i-preserved
loop-i-preserved g c = (
  omega arith,
  omega arith,
  lanes_stored _ c.loop-i.invariant.2 c.means_side_by_side-lanes.ensures c.store.ensures (omega arith),
)
