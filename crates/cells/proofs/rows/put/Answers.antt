-- `put` meets its contract: its stores are those of `put_at`. Assumes nothing.
use Prim.Native.Nat.{◌*◌}
use native.Mathlib.Omega.{arith}
use lib.ListN.{length-set}
use Rattle.cells.specs.inner.Scratch.{put_at}
use Rattle.cells.proofs.Scratch.{lent_cleared}
use Rattle.cells.proofs.rows.put.Goals as goal

pub returns : goal.returns
returns c = unfold put_at in lent_cleared (7 * c.args.i) _ c.clear.ensures (rw length-set (omega arith))
