-- `range_accepted` meets its contract: an accepted number lies within the limit and is not -0.0. Assumes nothing.
use Rattle.std.proofs.Common.{rules}
use Rattle.values.specs.Accepted.{accepted}
use Rattle.values.proofs.series.range_accepted.Goals as goal

pub returns : goal.returns
unfolding accepted
returns c = c.each_passes.ensures accepted (record { as_test = λ x r f e. search rules })
