-- `write_some_deviations` meets its contract: the roots of the variances are written from bar i on. Assumes nothing.
use Prim.Native.Nat.{◌+◌}
use native.Mathlib.Omega.{arith}
use lib.Ieee.{nan}
use Rattle.cells.proofs.Written.{read_back}
use Rattle.bands.proofs.Deviation.{deviation_at}
use Rattle.bands.proofs.First.{then_part}
use Rattle.bands.proofs.write_some_deviations.Goals as goal

pub returns : goal.returns
returns c =
    let a = c.args in
    let pre = c.requires in
    let cells = c.write_spreads-count.ensures in
    record {
      some = cells.some;
      inside = cells.inside;
      cells =
          then_part pre.cells c.write_roots.ensures
          (λ j l. deviation_at a.close.now a.n (a.i + j) pre.asked.values
          (read_back j nan cells.variances (omega arith)) (omega arith))
          (omega arith);
    }
