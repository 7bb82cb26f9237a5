-- `fill` meets its contract: the loop writes cell after cell. Assumes nothing.
use mathlib.Core.Path.{refl}
use native.Mathlib.Omega.{arith}
use lib.ListN.{length-take}
use Rattle.cells.proofs.Written.{one_more, lent_front}
use Rattle.cells.proofs.fill.Goals as goal

pub loop-cell-preserved : goal.loop-cell-preserved
loop-cell-preserved g c = one_more c.loop-cell.invariant refl c.loop-cell-test.true

pub returns : goal.returns
returns g c = lent_front c.loop-cell.invariant (omega (arith, length-take c.args.n c.args.cells.now))
