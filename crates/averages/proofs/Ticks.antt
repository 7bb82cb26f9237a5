-- On whole ticks each cell of sma is one rounding of its window's mean. Assumes nothing.
use mathlib.Core.Path.{◌≡◌}
use Prim.Native.Nat.{ℕ, ◌+◌, ◌-◌, ◌<◌, ◌≤◌, ◌^◌}
use native.Mathlib.Omega.{arith}
use lib.IntN.{ℤ}
use lib.Ieee.{nan, binary64}
use Rattle.rounding.specs.Whole.{total}
use Rattle.rounding_laws.proofs.Quotient.{quotient}
use Rattle.cells.specs.Line.{Line}
use Rattle.cells.proofs.Line.{from_bar_lem}
use Rattle.averages.specs.Sma.{sma_line}
use Rattle.exact_ticks.proofs.Exact.{TickLine, difference_slides, running_exact}

module _ {l : ℕ} {f : Line} {t : ℕ → ℤ} (w : TickLine l f t) (n : ℕ) (N : 0 < n) (M : n ≤ 2 ^ 12) where
  -- and so is sma's cell
  pub sma_exact : (i : ℕ) → n ≤ i + 1 → i < l → sma_line n f i ≡ quotient binary64 (total t (i + 1 - n) n) n
  unfolding sma_line
  sma_exact i b h = rw (
    from_bar_lem (n - 1) nan _ i (omega arith),
    running_exact w difference_slides n (i + 1 - n) N M
        (omega arith),
  )
