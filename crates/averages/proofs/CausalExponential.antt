-- The exponential averages have no look-ahead. Assumes nothing.
use Prim.Native.Nat.{ℕ, ◌-◌}
use native.Mathlib.Omega.{arith}
use lib.Ieee.{Float, nan}
use Rattle.cells.specs.Line.{Causal}
use Rattle.cells.proofs.Carried.{causal_carried}
use Rattle.windows.specs.Window.{mean}
use Rattle.windows.proofs.Window.{causal_mean}
use Rattle.averages.specs.Blend.{blend, ema_alpha}
use Rattle.averages.specs.Ema.{ema_line}
use Rattle.averages.specs.ExponentialSmoothing.{exponential_line}

pub causal_ema : (n : ℕ) → Causal (ema_line n)
causal_ema n =
    causal_carried nan (blend (ema_alpha n)) (n - 1) (λ f. mean n f (n - 1)) (λ f g. causal_mean n f g (n - 1))

pub causal_exponential : (alpha : Float) → Causal (exponential_line alpha)
causal_exponential alpha = causal_carried nan (blend alpha) 0 (λ f. f 0) (λ f g s. s 0 (omega arith))
