-- `write_mean_ranges_by` meets its contract: the ranges of the means that stand in the slice. Assumes nothing.
use native.Mathlib.Omega.{arith}
use Rattle.extremes.specs.Extreme.{larger, smaller, extreme}
use Rattle.extremes.proofs.Extreme.{causal_extreme}
use Rattle.exact_ticks.proofs.Bounds.{means_room}
use Rattle.window_means.proofs.Through.{both_through}
use Rattle.window_means.proofs.ranges.write_mean_ranges_by.Goals as goal

pub write_ranges-requires : goal.write_ranges-requires
write_ranges-requires c =
    let pre = c.requires.priced in
    let known = c.requires.window in
    let v = c.write_means_by.ensures in
    means_room c.args.series.now pre.window known.0 pre.short
    pre.values v (omega arith) (omega arith)

pub returns : goal.returns
returns c =
    let means = c.write_means_by.ensures in
    let some = c.requires.window.0.some in
    let high = causal_extreme larger _ some in
    let low = causal_extreme smaller _ some in
    let both = c.write_ranges.ensures in
    (means, both_through means (omega arith) (extreme larger _) (extreme smaller _) high low both)
