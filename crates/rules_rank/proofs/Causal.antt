-- No look-ahead. Assumes nothing.
use Prim.Native.Nat.{ℕ, ◌+◌, ◌-◌, ◌*◌, ◌<◌}
use native.Mathlib.Omega.{arith}
use Rattle.cells.specs.Line.{plus_zero, Causal}
use Rattle.cells.proofs.Line.{causal_same, causal_from}
use Rattle.windows.specs.Window.{mean}
use Rattle.windows.proofs.Window.{causal_mean}
use Rattle.ranks.specs.Counted.{below}
use Rattle.ranks.proofs.Counted.{count_from_same}
use Rattle.rules_rank.specs.Rank.{below_now, rank_line}

pub causal_rank : (n : ℕ) → 0 < n → Causal (rank_line n)
unfolding rank_line below_now
causal_rank n p =
    causal_from (2 * n - 2) plus_zero
    (λ f g b s l.
    let means = causal_same (causal_mean n) f g b s in
    rw (count_from_same (below (mean n f b)) (below (mean n g b)) (mean n f) (mean n g) (b + 1 - n) (n - 1)
    (λ j h. rw (means j (omega arith), means b (omega arith)))))
