-- No look-ahead. Assumes nothing.
use mathlib.Core.List.{List}
use Prim.Native.Nat.{ℕ, ◌+◌, ◌-◌, ◌*◌, ◌<◌}
use native.Mathlib.Omega.{arith}
use Rattle.cells.specs.Line.{Causal}
use Rattle.cells.proofs.Line.{causal_same, causal_from}
use Rattle.windows.specs.Window.{mean}
use Rattle.windows.proofs.Window.{causal_mean}
use Rattle.ranks.specs.Counted.{below}
use Rattle.ranks.proofs.Counted.{count_from_same}
use Rattle.rules_held.specs.Held.{flat}
use Rattle.rules_rank.specs.Rank.{below_now}
use Rattle.rules_rank_table.specs.Table.{Row}
use Rattle.rules_rank_table.specs.RankTable.{rank_table_line}

pub causal_rank_table : (rows : List Row) (n : ℕ) → 0 < n → Causal (rank_table_line rows n)
unfolding rank_table_line below_now
causal_rank_table rows n p =
    causal_from (2 * n - 2) flat
    (λ f g b s l.
    let means = causal_same (causal_mean n) f g b s in
    rw (count_from_same (below (mean n f b)) (below (mean n g b)) (mean n f) (mean n g) (b + 1 - n) (n - 1)
    (λ j h. rw (means j (omega arith), means b (omega arith)))))
