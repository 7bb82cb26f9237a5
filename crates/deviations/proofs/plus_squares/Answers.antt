-- `plus_squares` meets its contract: each turn adds a square to its lane. Assumes nothing.
use Rattle.std.proofs.Common.{refl, ap, ◌+◌}
use native.Mathlib.Omega.{arith}
use lib.ListN.{length-set}
use lib.Ieee.{Float, binary64, add}
use Rattle.cells.specs.Line.{line}
use Rattle.cells.proofs.Written.{one_more, ends}
use Rattle.windows.proofs.Lanes.{lane_before}
use Rattle.deviations.proofs.Squares.{from_middle}
use Rattle.deviations.proofs.plus_squares.Goals as goal

pub loop-lane-preserved : goal.loop-lane-preserved
loop-lane-preserved g c =
    let at = c.loop-lane in
    let w = at.invariant.2 in
    let a = c.args in
    let square = from_middle (line a.middles at.lane) (line a.cells.now) (a.at + at.lane) in (
      refl,
      simp length-set at.invariant.1,
      one_more w (ap (λ (x : Float). add binary64 x square) (lane_before at.lane w (omega arith))) (omega arith),
    )

pub returns : goal.returns
returns g c = (ends c.loop-lane.invariant.2 (omega arith)).is
