-- The double rule: no look-ahead, and a cell from the two running sums. Assumes nothing.
use mathlib.Core.Path.{◌≡◌}
use Prim.Native.Nat.{ℕ, ◌+◌, ◌-◌, ◌<◌, ◌≤◌}
use native.Mathlib.Omega.{arith}
use lib.Ieee.{Float}
use Rattle.cells.specs.Line.{Line, plus_zero, Causal}
use Rattle.cells.proofs.Line.{causal_from, from_bar_lem}
use Rattle.windows.specs.Window.{add_then_subtract}
use Rattle.windows.proofs.Window.{running_sum_same}
use Rattle.windows.specs.inner.Sums.{Running}
use Rattle.rules_double.specs.Double.{running_mean, double_line}
use Rattle.rules_double.specs.inner.Stages.{crossing}

pub causal_double : (n m : ℕ) → 0 < n → n < m → Causal (double_line n m)
unfolding double_line running_mean
causal_double n m p q =
    causal_from (m - 1) plus_zero
    (λ f g b s l. rw (
      running_sum_same add_then_subtract n f g b (b + 1 - n) p (omega arith) s,
      running_sum_same add_then_subtract m f g b (b + 1 - m) (omega arith) (omega arith) s,
    ))

-- the running sum of the n bars up to bar i
abbrev pub Sum : ℕ → Line → ℕ → Float → Type 0
Sum n f i x = Running add_then_subtract n f (i + 1) x

pub double_at : {n m : ℕ} {f : Line} (i : ℕ) {x y : Float} → Sum n f i x → Sum m f i y → m ≤ i + 1 → crossing n m x y
    ≡ double_line n m f i
unfolding double_line running_mean
double_at {m = m} i s t h = rw (s.is, t.is, from_bar_lem (m - 1) plus_zero _ i (omega arith))
