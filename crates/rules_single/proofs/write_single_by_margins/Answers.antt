-- `write_single_by_margins` meets its contract: both averages, whether they decide every bar, and the positions over
-- them. Assumes nothing.
use mathlib.Core.Path.{sym, ◌∙◌}
use mathlib.Core.Bool.{true≢false}
use native.Mathlib.Omega.{arith}
use Rattle.cells.proofs.Parts.{through}
use Rattle.cells.proofs.Touched.{touched, touched_more}
use Rattle.cells.proofs.Written.{then_written, writing_same}
use Rattle.windows.specs.inner.Means.{running_means}
use Rattle.windows.proofs.Means.{causal_running_means}
use Rattle.rules_single.proofs.ByMargins.{by_margins}
use Rattle.rules_single.proofs.write_single_by_margins.Goals as goal

pub returns-then-far : goal.returns-then-far
returns-then-far c =
    let pre = c.requires in
    let doubled = through c.write_running_means.ensures (omega arith) (running_means _)
    (causal_running_means _ pre.window.some) c.write_running_means-2.ensures in
    let same = by_margins c.args.series.now c.args.n pre.values c.shared_slice_known-1.given
    pre.window pre.short doubled (omega arith) c.if-far.true c.margin.ensures
    c.all_far-far.ensures in
    let positions = writing_same (then_written doubled c.write_against_means.ensures (omega arith)) same in
    record {
      used = touched positions;
      work = touched_more (touched c.write_running_means.ensures) (omega arith);
      cells = λ e. positions;
    }

pub returns-else-far : goal.returns-else-far
returns-else-far c =
    let pre = c.requires in
    let doubled = through c.write_running_means.ensures (omega arith) (running_means _)
    (causal_running_means _ pre.window.some) c.write_running_means-2.ensures in
    record {
      used = touched doubled;
      work = touched_more (touched c.write_running_means.ensures) (omega arith);
      cells = λ e. absurd (true≢false (sym e ∙ c.if-far.false));
    }
