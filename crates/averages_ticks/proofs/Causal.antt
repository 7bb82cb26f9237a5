-- tick_mean has no look-ahead. Assumes nothing.
use mathlib.Core.Path.{ap}
use Prim.Native.Nat.{ℕ, ◌+◌, ◌-◌}
use native.Mathlib.Omega.{arith}
use lib.IntN.{ℤ, pos}
use lib.Ieee.{to_signed}
use Rattle.rounding_laws.proofs.Integers.{total_same}
use Rattle.cells.specs.Line.{Causal}
use Rattle.cells.proofs.Line.{causal_from}
use Rattle.averages_ticks.specs.TickMean.{tick_mean_line, to_tick}

pub causal_tick_mean : (n : ℕ) → Causal (tick_mean_line n)
unfolding tick_mean_line
causal_tick_mean n =
    causal_from (n - 1) (pos 0) (λ f g b s l. ap (λ (z : ℤ). to_tick z n)
    (total_same _ _ (b + 1 - n) n (λ j m. ap (to_signed 63) (s (b + 1 - n + j) (omega arith)))))
