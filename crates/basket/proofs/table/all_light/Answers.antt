-- `all_light` meets its contract: each weight is tested. Assumes nothing.
use mathlib.Core.Path.{◌∙◌}
use borrow.Author.Rules.{rules}
use lib.IntN.{pos}
use Rattle.std.proofs.Common.{tests}
use Rattle.std.proofs.lemmas.Iterator.{YieldsList-from_slice}
use Rattle.std.proofs.lemmas.Iterator.Search.{all_from_yields_List}
use Rattle.basket.specs.inner.Listed.{light}
use Rattle.basket.proofs.Checks.{each_place}
use Rattle.basket.proofs.table.all_light.Goals as goal

pub returns : goal.returns
returns c =
    let weights = c.args.weights.now in
    all_from_yields_List (λ w. light w) _ _ _ c.all.ensures.ran (YieldsList-from_slice weights cc)
    (λ x b q k. search (rules, tests))
    ∙ each_place (λ w. light w) (pos 0) weights
