-- `none_above` meets its contract: it is true where each number is small enough. Assumes nothing.
use Rattle.std.proofs.Common.{leb, rules}
use Rattle.values.proofs.All.{all_passed}
use Rattle.checks.proofs.none_above.Goals as goal

pub returns : goal.returns
returns c = let a = c.args in all_passed 0 (λ n. leb n a.limit) a.numbers.now c.all.result (search rules)
