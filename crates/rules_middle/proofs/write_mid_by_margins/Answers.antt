-- `write_mid_by_margins` meets its contract: the means by running sums and their ranges, whether they decide every bar,
-- and the positions over the means. Assumes nothing.
use mathlib.Core.Path.{sym, ◌∙◌}
use mathlib.Core.Bool.{true≢false}
use native.Mathlib.Omega.{arith}
use Rattle.cells.proofs.Parts.{part_long}
use Rattle.cells.proofs.Touched.{touched, touched_more}
use Rattle.cells.proofs.Written.{then_written, writing_same}
use Rattle.extremes.specs.Extreme.{larger, smaller, extreme}
use Rattle.extremes.proofs.Extreme.{causal_extreme}
use Rattle.window_means.proofs.Through.{both_through}
use Rattle.rules_middle.proofs.Middle.{standing}
use Rattle.rules_middle.proofs.ByMargins.{running_means_room, by_margins}
use Rattle.rules_middle.proofs.write_mid_by_margins.Goals as goal

pub write_ranges-requires : goal.write_ranges-requires
write_ranges-requires c =
    let pre = c.requires in
    running_means_room c.args.series.now c.args.n pre.values c.shared_slice_known-1.given
    pre.window pre.short c.write_running_means.ensures (omega arith) (omega arith)

pub returns-then-far : goal.returns-then-far
returns-then-far c =
    let pre = c.requires in
    let some = pre.window.some in
    let rows = both_through c.write_running_means.ensures (omega arith) (extreme larger _) (extreme smaller _)
    (causal_extreme larger _ some) (causal_extreme smaller _ some) c.write_ranges.ensures in
    let stood = standing _ c.write_running_means.ensures rows (omega arith) (omega arith) in
    let same = by_margins c.args.series.now c.args.n pre.values c.shared_slice_known-1.given
    pre.window pre.short stood c.if-far.true c.margin.ensures c.all_far-far.ensures in
    let positions = writing_same
    (then_written c.write_running_means.ensures c.write_against_middles.ensures (omega arith)) same in
    record { used = touched positions; work = touched_more (touched rows) (omega arith); cells = λ e. positions }

pub returns-else-far : goal.returns-else-far
returns-else-far c =
    let long = part_long c.write_running_means.ensures (omega arith) in
    record {
      used = touched c.write_running_means.ensures;
      work = touched_more (touched c.write_ranges.ensures) (omega arith);
      cells = λ e. absurd (true≢false (sym e ∙ c.if-far.false));
    }
