-- No look-ahead. Assumes nothing.
use mathlib.Core.Path.{refl}
use Prim.Native.Nat.{ℕ, zero, suc, ◌-◌}
use native.Mathlib.Omega.{arith}
use Rattle.cells.specs.Line.{Causal}
use Rattle.cells.proofs.Line.{causal_from}
use Rattle.ranks.proofs.Counted.{count_from_same}
use Rattle.rules_rank.specs.RollingRank.{well_below, rolling_rank_line}

pub causal_rolling_rank : (w : ℕ) → Causal (rolling_rank_line w)
unfolding rolling_rank_line
causal_rolling_rank zero = λ f g b s. refl
causal_rolling_rank (suc k) =
    causal_from k 0
    (λ f g b s l. rw (count_from_same (well_below (f b)) (well_below (g b)) f g (b - k) (suc k)
    (λ j h. rw (s j (omega arith), s b (omega arith)))))
