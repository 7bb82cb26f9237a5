-- `sum_tested` meets its contract: the loop sums and tests eight prices a turn, and then the rest. Assumes nothing.
use Rattle.std.proofs.Common.{sym, ◌∙◌, arith}
use lib.Ieee.{of_bits, neg}
use Rattle.values.proofs.Part.{none_passing, both_passing, told}
use Rattle.windows.proofs.Window.{none_summed, more_added, window_sum_lem}
use Rattle.averages.proofs.sum_tested.Goals as goal

pub loop-k-init : goal.loop-k-init
loop-k-init c = unfold of_bits neg in (none_passing, none_summed)

pub loop-k-preserved : goal.loop-k-preserved
loop-k-preserved c =
    let inv = c.loop-k.invariant in (
      both_passing _ inv.0 c.range_accepted-accept.ensures (omega arith),
      more_added _ 8 _ inv.1 c.sum_more-sum.ensures (omega arith),
    )

pub returns : goal.returns
returns c =
    let inv = c.loop-k.invariant in
    let n = c.args.n in
    record {
      sum = c.tested.ensures.0
          ∙ window_sum_lem n _ (more_added _ _ n inv.1 c.sum_more.ensures (omega arith)) (omega arith);
      accept = told (sym c.tested.ensures.1)
          (both_passing n inv.0 c.range_accepted-accept-2.ensures (omega arith));
    }
