-- The smoothed relative strength index has no look-ahead. Assumes nothing.
use Prim.Native.Nat.{ℕ}
use lib.Ieee.{nan}
use Rattle.rounding.specs.Leaves.{plus_one}
use Rattle.cells.specs.Line.{Causal}
use Rattle.cells.proofs.Line.{causal_then, causal_with, causal_from}
use Rattle.windows.specs.Window.{over}
use Rattle.averages.proofs.CausalExponential.{causal_exponential}
use Rattle.smoother_table.specs.Coefficients.{coefficients}
use Rattle.smoother.proofs.Smoother.{causal_smooth}
use Rattle.changes.specs.Changes.{rsi}
use Rattle.changes.proofs.Causal.{causal_gains, causal_losses}
use Rattle.rsx.specs.Rsx.{rsx_unsmoothed, rsx_line}

pub causal_rsx_unsmoothed : (n : ℕ) → Causal (rsx_unsmoothed n)
unfolding rsx_unsmoothed
causal_rsx_unsmoothed n =
    let average = causal_exponential (over n plus_one) in
    causal_from 1 nan
    (λ f g b s l. causal_with rsi (causal_then causal_gains average) (causal_then causal_losses average) f g b s)

pub causal_rsx : (n m : ℕ) → Causal (rsx_line n m)
unfolding rsx_line
causal_rsx n m = causal_then (causal_rsx_unsmoothed n) (causal_smooth (coefficients m))
