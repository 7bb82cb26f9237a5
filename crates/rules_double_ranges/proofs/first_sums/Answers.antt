-- `first_sums` meets its contract: two windows summed afresh. Assumes nothing.
use Rattle.rules_double_ranges.proofs.Bars.{first_sums}
use Rattle.rules_double_ranges.proofs.first_sums.Goals as goal

pub returns : goal.returns
returns c = first_sums c.requires c.sum_at-short.ensures c.sum_at-old.ensures
