-- `cover_count` meets its contract: the rows that pass are counted. Assumes nothing.
use mathlib.Core.Path.{◌≡◌, ◌∙◌}
use mathlib.Core.Bool.{Bool, true, false, cond}
use mathlib.Core.List.{List, [], ◌∷◌, map}
use Prim.Native.Nat.{ℕ, suc, ◌+◌}
use native.Mathlib.Omega.{arith}
use borrow.Author.Rules.{rules}
use lib.IntN.{ℤ}
use Rattle.std.specs.List.{count_by, fold}
use Rattle.rules_rank_table.specs.Table.{covers, cover_count}
use Rattle.rules_rank_table.specs.inner.Stages.{row_of}
use Rattle.rules_rank_table.proofs.table.cover_count.Goals as goal

one_more : (covered : Bool) (n m : ℕ) → n + cond covered 1 0 + m ≡ n + cond covered (suc m) m
one_more true n m = omega arith
one_more false n m = omega arith

counted_on : (k : ℤ) (n : ℕ) (rows : List (List ℤ)) → fold (λ a row. a + cond (covers k (row_of row)) 1 0) n rows
    ≡ n + cover_count k (map row_of rows)
unfolding cover_count
counted_on k n [] = omega arith
counted_on k n (row ∷ rows) =
    let t = covers k (row_of row) in counted_on k (n + cond t 1 0) rows ∙ one_more t n (cover_count k (map row_of rows))

pub returns : goal.returns
returns c =
    let rows = c.args.rows.now in
    let found : c.count.result ≡ count_by (λ row. covers c.args.k (row_of row)) rows = search rules in
    found ∙ counted_on c.args.k 0 rows ∙ omega arith
