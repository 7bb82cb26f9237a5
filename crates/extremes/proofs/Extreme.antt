-- The highest and the lowest of the last n cells. Assumes nothing.
use mathlib.Core.Path.{◌≡◌}
use Prim.Native.Nat.{ℕ, zero, suc, ◌+◌, ◌-◌, ◌<◌, ◌≤◌}
use native.Mathlib.Omega.{arith}
use lib.Ieee.{Float}
use Rattle.cells.specs.Line.{Line, plus_zero, Causal}
use Rattle.cells.proofs.Line.{causal_from}
use Rattle.extremes.specs.Extreme.{extreme, pick_from}

pick_from_same : (pick : Float → Float → Float) (f g : Line) (a k : ℕ) → ((j : ℕ) → j ≤ a + k → f j ≡ g j)
    → pick_from pick f a k ≡ pick_from pick g a k
unfolding pick_from
pick_from_same pick f g a zero h = h a (omega arith)
pick_from_same pick f g a (suc k) h = rw (
  pick_from_same pick f g a k (λ j l. h j (omega arith)),
  h (a + suc k)
      (omega arith),
)

pub causal_extreme : (pick : Float → Float → Float) (n : ℕ) → 0 < n → Causal (extreme pick n)
unfolding extreme
causal_extreme pick n p =
    causal_from (n - 1) plus_zero (λ f g b s l. pick_from_same pick f g (b + 1 - n) (n - 1) (λ j m. s j (omega arith)))
