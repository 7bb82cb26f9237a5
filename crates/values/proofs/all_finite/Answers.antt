-- `all_finite` meets its contract: it is true where each number passes. Assumes nothing.
use Rattle.std.proofs.Common.{rules}
use Rattle.values.specs.Accepted.{finite}
use Rattle.values.proofs.All.{all_tested}
use Rattle.values.proofs.all_finite.Goals as goal

pub returns : goal.returns
returns c = all_tested finite c.args.numbers.now c.all.result (search rules)
