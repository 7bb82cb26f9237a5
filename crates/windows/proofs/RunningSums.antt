-- Running sums of every bar's window: no look-ahead, and one cell. Assumes nothing.
use mathlib.Core.Path.{◌≡◌}
use Prim.Native.Nat.{ℕ, ◌+◌, ◌-◌, ◌<◌, ◌≤◌}
use native.Mathlib.Omega.{arith}
use lib.Ieee.{Float}
use Rattle.cells.specs.Line.{Line, plus_zero, Causal}
use Rattle.cells.proofs.Line.{from_bar_lem, causal_from}
use Rattle.windows.specs.Window.{add_difference}
use Rattle.windows.proofs.Window.{running_sum_same}
use Rattle.windows.specs.inner.Sums.{Running}
use Rattle.windows.specs.inner.RunningSums.{running_sums}

pub causal_running_sums : (n : ℕ) → 0 < n → Causal (running_sums n)
unfolding running_sums
causal_running_sums n p = causal_from (n - 1) plus_zero
    (λ f g b s l. running_sum_same add_difference n f g b (b + 1 - n) p (omega arith) s)

-- the cell of bar i
pub running_sum_at : {n : ℕ} {f : Line} (i : ℕ) {x : Float} → Running add_difference n f (i + 1) x → n ≤ i + 1
    → x ≡ running_sums n f i
unfolding running_sums
running_sum_at {n} i r h = rw (r.is, from_bar_lem (n - 1) plus_zero _ i (omega arith))
