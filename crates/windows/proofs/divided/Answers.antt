-- `divided` meets its contract: each turn divides one lane. Assumes nothing.
use Rattle.std.proofs.Common.{ap}
use native.Mathlib.Omega.{arith}
use Rattle.cells.proofs.Written.{one_more}
use Rattle.windows.specs.Window.{over}
use Rattle.windows.proofs.Lanes.{lane_before, each_written}
use Rattle.windows.proofs.divided.Goals as goal

pub loop-sum-preserved : goal.loop-sum-preserved
loop-sum-preserved g c =
    let w = c.loop-sum.invariant in
    one_more w (ap (over c.args.n) (lane_before _ w (omega arith))) (omega arith)

pub returns : goal.returns
returns g c = let w = c.loop-sum.invariant in each_written (over c.args.n) w (omega arith)
