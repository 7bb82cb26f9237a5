-- `all_of_length` meets its contract: it is true where each length is that one. Assumes nothing.
use Rattle.std.proofs.Common.{eqb, rules}
use Rattle.values.proofs.All.{all_passed}
use Rattle.checks.proofs.all_of_length.Goals as goal

pub returns : goal.returns
returns c = let a = c.args in all_passed 0 (λ l. eqb l a.length) a.lengths.now c.all.result (search rules)
