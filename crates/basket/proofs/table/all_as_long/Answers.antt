-- `all_as_long` meets its contract: each contract is tested. Assumes nothing.
use mathlib.Core.Path.{refl, ◌∙◌}
use native.Mathlib.Omega.{arith}
use borrow.Author.Rules.{rules}
use Rattle.std.proofs.Common.{tests}
use Rattle.std.proofs.lemmas.Iterator.{YieldsList-from_range}
use Rattle.std.proofs.lemmas.Iterator.Search.{all_from_yields_List}
use Rattle.basket.specs.inner.Listed.{as_long}
use Rattle.basket.proofs.Checks.{each_number}
use Rattle.basket.proofs.table.all_as_long.Goals as goal

pub returns : goal.returns
returns c =
    let count = c.args.count in
    all_from_yields_List (as_long c.args.contracts.now c.args.bars) _ _ _ c.all.ensures.ran
    (YieldsList-from_range 0 count count refl (omega arith))
    (λ x b q k. search (rules, tests))
    ∙ each_number (as_long c.args.contracts.now c.args.bars) count
