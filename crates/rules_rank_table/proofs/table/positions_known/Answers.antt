-- `positions_known` meets its contract: each row's position is tested. Assumes nothing.
use mathlib.Core.Path.{◌≡◌, refl, ◌∙◌}
use mathlib.Core.List.{List, [], ◌∷◌, map}
use borrow.Author.Rules.{rules}
use lib.IntN.{ℤ}
use Rattle.std.proofs.Common.{tests}
use Rattle.std.specs.List.{list_all}
use Rattle.std.proofs.lemmas.Iterator.{YieldsList-from_slice}
use Rattle.std.proofs.lemmas.Iterator.Search.{all_from_yields_List}
use Rattle.values.specs.Accepted.{all}
use Rattle.rules_rank_table.specs.Table.{is_position}
use Rattle.rules_rank_table.specs.inner.Stages.{row_of}
use Rattle.rules_rank_table.proofs.table.positions_known.Goals as goal

each : (rows : List (List ℤ)) → list_all (λ row. is_position (row_of row).position) rows
    ≡ all (λ row. is_position row.position) (map row_of rows)
each [] = refl
each (row ∷ rows) = rw (each rows)

pub returns : goal.returns
returns c =
    all_from_yields_List (λ row. is_position (row_of row).position) _ _ _ c.all.ensures.ran
    (YieldsList-from_slice c.args.rows.now cc) (λ x b q k. search (rules, tests))
    ∙ each c.args.rows.now
