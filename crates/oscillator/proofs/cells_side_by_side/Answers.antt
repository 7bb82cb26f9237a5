-- `cells_side_by_side` meets its contract: each turn weighs three shares. Assumes nothing.
use Rattle.std.proofs.Common.{refl, ap, ◌∙◌}
use native.Mathlib.Omega.{arith}
use lib.ListN.{length-set}
use lib.Ieee.{Float}
use Rattle.cells.specs.Line.{line, minus_zero}
use Rattle.cells.proofs.Written.{one_more}
use Rattle.windows.proofs.Lanes.{lane_before}
use Rattle.oscillator.specs.Oscillator.{weighed}
use Rattle.oscillator.proofs.Oscillator.{cells_of_lanes}
use Rattle.oscillator.proofs.cells_side_by_side.Goals as goal

pub loop-lane-preserved : goal.loop-lane-preserved
loop-lane-preserved g c =
    let at = c.loop-lane in
    let w = at.invariant.2 in
    let medium = line c.shares_side_by_side-medium_shares.result at.lane in
    let long = line c.shares_side_by_side-long_shares.result at.lane in
    let cell = c.weigh.ensures ∙ ap (λ (x : Float). weighed x medium long) (lane_before at.lane w (omega arith)) in
    (refl, simp length-set at.invariant.1, one_more w cell (omega arith))

pub returns : goal.returns
returns g c =
    cells_of_lanes minus_zero _ _ _ _ _ _ c.shares_side_by_side-cells.ensures
    c.shares_side_by_side-medium_shares.ensures c.shares_side_by_side-long_shares.ensures c.loop-lane.invariant.2
    (omega arith)
