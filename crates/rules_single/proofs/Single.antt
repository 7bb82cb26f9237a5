-- The one-average rule: no look-ahead, and a cell from what the stages before it wrote. Assumes nothing.
use mathlib.Core.Path.{◌≡◌, refl}
use Prim.Native.Nat.{ℕ, ◌-◌, ◌*◌, ◌≤◌}
use lib.Ieee.{Float}
use Rattle.cells.specs.Line.{Line, plus_zero, Causal}
use Rattle.cells.proofs.Line.{causal_self, causal_then, causal_with, causal_from}
use Rattle.windows.specs.Window.{mean}
use Rattle.windows.proofs.Window.{causal_mean}
use Rattle.rules_single.specs.inner.Positions.{positions}
use Rattle.rules_single.proofs.Positions.{position_at}
use Rattle.rules_single.specs.Single.{against_mean, single_line}

-- ---- no look-ahead

pub causal_single : (n : ℕ) → Causal (single_line n)
unfolding single_line
causal_single n =
    causal_from (2 * n - 2) plus_zero
    (λ f g b s l. causal_with against_mean causal_self (causal_then (causal_mean n) (causal_mean n)) f g b s)

-- the rule takes the doubly averaged price
pub positions_single : (n : ℕ) (f : Line) → positions n f (mean n (mean n f)) ≡ single_line n f
unfolding single_line
positions_single n f = refl

pub single_at : (n : ℕ) (f : Line) (i : ℕ) {m : Float} → m ≡ mean n (mean n f) i → 2 * n - 2 ≤ i → against_mean (f i) m
    ≡ single_line n f i
unfolding single_line
single_at n f i e h = position_at n f (mean n (mean n f)) i e h
