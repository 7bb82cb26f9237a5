-- The averages of the double rule are finite. Assumes nothing.
use Prim.Native.Nat.{ℕ, ◌+◌, ◌-◌, ◌^◌, ◌<◌, ◌≤◌}
use native.Mathlib.Omega.{arith}
use Rattle.cells.specs.Line.{Line}
use Rattle.rules_double.specs.Double.{running_mean}
use Rattle.rounding_laws.proofs.Bounds.{AtMost, div_at_most}
use Rattle.exact_ticks.proofs.Bounds.{Bounded, running_bounded}

-- windows of accepted prices, or of their means
module _ (n : ℕ) (N : 0 < n) (M : n ≤ 2 ^ 12) (f : Line) (i : ℕ) (h : Bounded (2 ^ 30) f i) where
  -- of at most 65,536 bars
  pub running_mean_bounded : n ≤ i + 1 → i < 2 ^ 16 → AtMost (2 ^ 47) (running_mean n f i)
  unfolding running_mean
  running_mean_bounded b l = div_at_most (running_bounded (2 ^ 30) f i h n (i + 1 - n) (omega arith)) n (omega arith)
