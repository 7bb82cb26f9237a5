-- `read_on` meets its contract: what was kept stands before what was read. Assumes nothing.
use native.Mathlib.Omega.{arith}
use lib.ListN.{take, length-drop, length-take}
use lib.Seq.{take_at, length-take-le}
use Rattle.sheet_run.proofs.input.read_on.Goals as goal

pub returns : goal.returns
returns c =
    let a = c.args in (
      omega (arith, rw (length-take, length-drop) at c.read_some.ensures),
      take_at (take a.kept a.block.now) _ a.kept (length-take-le a.kept a.block.now (omega arith)),
    )
