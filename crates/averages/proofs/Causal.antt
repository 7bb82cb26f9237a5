-- sma has no look-ahead. Assumes nothing.
use mathlib.Core.Path.{ap}
use Prim.Native.Nat.{ℕ, ◌+◌, ◌-◌, ◌<◌}
use native.Mathlib.Omega.{arith}
use lib.Ieee.{nan}
use Rattle.cells.specs.Line.{Causal}
use Rattle.cells.proofs.Line.{causal_from}
use Rattle.windows.specs.Window.{over, add_difference}
use Rattle.windows.proofs.Window.{running_sum_same}
use Rattle.averages.specs.Sma.{sma_line}

-- no look-ahead
pub causal_sma : (n : ℕ) → 0 < n → Causal (sma_line n)
unfolding sma_line
causal_sma n p = causal_from (n - 1) nan
    (λ f g b s l. ap (over n) (running_sum_same add_difference n f g b (b + 1 - n) p (omega arith) s))
