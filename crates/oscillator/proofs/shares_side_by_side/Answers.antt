-- `shares_side_by_side` meets its contract: each turn takes a sum over another. Assumes nothing.
use Rattle.std.proofs.Common.{refl, ap, ◌∙◌}
use native.Mathlib.Omega.{arith}
use lib.ListN.{length-set}
use lib.Ieee.{Float}
use Rattle.cells.specs.Line.{line}
use Rattle.cells.proofs.Written.{one_more}
use Rattle.windows.proofs.Lanes.{lane_before}
use Rattle.oscillator.specs.Oscillator.{ratio}
use Rattle.oscillator.proofs.Oscillator.{shares_of_lanes}
use Rattle.oscillator.proofs.shares_side_by_side.Goals as goal

pub loop-lane-preserved : goal.loop-lane-preserved
loop-lane-preserved g c =
    let at = c.loop-lane in
    let w = at.invariant.3 in
    let under = line c.sums_side_by_side-under.result at.lane in
    let cell = c.ratio_of.ensures ∙ ap (λ (x : Float). ratio x under) (lane_before at.lane w (omega arith)) in
    (refl, simp length-set at.invariant.1, at.invariant.2, one_more w cell (omega arith))

pub returns : goal.returns
returns g c =
    shares_of_lanes _ _ _ _ c.sums_side_by_side-shares.ensures c.sums_side_by_side-under.ensures
    c.loop-lane.invariant.3 (omega arith)
