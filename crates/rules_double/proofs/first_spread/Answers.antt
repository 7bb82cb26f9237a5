-- `first_spread` meets its contract: two sums, and their products, of whole numbers. Assumes nothing.
use Rattle.rules_double.proofs.Spread.{first_exact}
use Rattle.rules_double.proofs.first_spread.Goals as goal

pub returns : goal.returns
returns c = first_exact c.requires c.sum_at-short.ensures c.sum_at-rest.ensures
