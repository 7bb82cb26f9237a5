-- `added` meets its contract: each turn adds a price to its lane. Assumes nothing.
use Rattle.std.proofs.Common.{refl, ap, ◌+◌}
use native.Mathlib.Omega.{arith}
use lib.ListN.{length-set}
use lib.Ieee.{Float, binary64, add}
use Rattle.cells.specs.Line.{line}
use Rattle.cells.proofs.Written.{one_more, ends}
use Rattle.windows.proofs.Lanes.{lane_before}
use Rattle.windows.proofs.added.Goals as goal

pub loop-lane-preserved : goal.loop-lane-preserved
loop-lane-preserved g c =
    let at = c.loop-lane in
    let w = at.invariant.2 in
    let more = λ (x : Float). add binary64 x (line c.args.series.now (c.args.at + at.lane)) in (
      refl,
      simp length-set at.invariant.1,
      one_more w (ap more (lane_before at.lane w (omega arith))) (omega arith),
    )

pub returns : goal.returns
returns g c = (ends c.loop-lane.invariant.2 (omega arith)).is
