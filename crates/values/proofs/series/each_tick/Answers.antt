-- `each_tick` meets its contract: a tick is one without its sign, and is not -0.0. Assumes nothing.
use Rattle.std.proofs.Common.{sym, arith}
use Rattle.values.specs.Accepted.{tick}
use Rattle.values.proofs.Part.{all_passing}
use Rattle.values.proofs.Zero.{tick_parts}
use Rattle.values.proofs.series.each_tick.Goals as goal

pub returns : goal.returns
returns c =
    let each = c.each_passes.ensures tick (record { as_test = λ x r f e. rw e (sym (tick_parts x f)) }) in
    all_passing c.args.s.now each (omega arith)
