-- `next_sums` meets its contract: one price comes into each sum, and one leaves it. Assumes nothing.
use Rattle.rules_double_ranges.proofs.Bars.{next_sums}
use Rattle.rules_double_ranges.proofs.next_sums.Goals as goal

pub returns : goal.returns
returns c =
    next_sums c.requires.over_ticks.0 c.args.i c.requires.over_ticks.1 c.requires.over_ticks.2 c.requires.sums_at
