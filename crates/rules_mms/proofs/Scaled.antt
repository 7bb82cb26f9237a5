-- The min-max rule: no look-ahead, and a cell from what the stages before it wrote. Assumes nothing.
use mathlib.Core.Path.{◌≡◌}
use Prim.Native.Nat.{ℕ, ◌+◌, ◌-◌, ◌<◌, ◌≤◌}
use lib.Ieee.{Float}
use Rattle.cells.specs.Line.{Line, plus_zero, Causal}
use Rattle.cells.proofs.Line.{causal_then, causal_from, from_bar_lem}
use Rattle.windows.specs.Window.{mean}
use Rattle.windows.proofs.Window.{causal_mean}
use Rattle.extremes.specs.Extreme.{larger, smaller, extreme}
use Rattle.extremes.proofs.Extreme.{causal_extreme}
use Rattle.rules_mms.specs.Mms.{scaled_between, mms_line}

pub causal_mms : (n w : ℕ) → 0 < w → Causal (mms_line n w)
unfolding mms_line
causal_mms n w p =
    causal_from (n + w - 2) plus_zero
    (λ f g b s l. rw (
      causal_mean n f g b s,
      causal_then (causal_mean n) (causal_extreme larger w p) f g b s,
      causal_then (causal_mean n) (causal_extreme smaller w p) f g b s,
    ))

pub mms_at : (n w : ℕ) (f : Line) (i : ℕ) {m h l : Float} → m ≡ mean n f i → h ≡ extreme larger w (mean n f) i
    → l ≡ extreme smaller w (mean n f) i → n + w - 2 ≤ i → scaled_between m h l ≡ mms_line n w f i
unfolding mms_line
mms_at n w f i e g k p = rw (e, g, k, from_bar_lem (n + w - 2) plus_zero _ i p)
