-- `write_side_by_side` meets its contract: each turn writes N cells. Assumes nothing.
use native.Mathlib.Omega.{arith}
use Rattle.window_means.proofs.Storing.{lanes_stored}
use Rattle.oscillator.proofs.write_side_by_side.Goals as goal

pub loop-i-preserved : goal.loop-i-preserved
loop-i-preserved g c = (
  omega arith,
  omega arith,
  lanes_stored _ c.loop-i.invariant.2 c.cells_side_by_side-lanes.ensures c.store.ensures
      (omega (arith, c.requires.begun.room)),
)
