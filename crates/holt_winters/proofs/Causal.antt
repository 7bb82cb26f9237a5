-- Holt-Winters smoothing has no look-ahead: a later cell reads the whole first season, which lies before it, and the
-- cells of the first season are the prices themselves. Assumes nothing.
use mathlib.Core.Path.{◌≡◌, refl}
use mathlib.Core.Bool.{Bool, true, false, cond}
use Prim.Native.Nat.{ℕ, zero, suc, ◌+◌, ◌-◌, ◌≤◌}
use native.Mathlib.Omega.{arith}
use borrow.Author.Tests.{ltb-false}
use lib.Dec.{ltb}
use Rattle.cells.specs.Line.{Line, Same, Causal}
use Rattle.windows.proofs.Window.{causal_mean}
use Rattle.holt_winters.specs.declared.Weights.{Weights}
use Rattle.holt_winters.specs.HoltWinters.{total, fit_within, fit_line, holt_winters_line}

module _ (m : ℕ) (w : Weights) (f g : Line) (b : ℕ) (s : Same f g b) (season : m ≤ b + 1) where
  within_agree : (more i : ℕ) → i ≤ b → fit_within more m w f i ≡ fit_within more m w g i
  unfolding fit_within
  within_agree zero i h = rw (causal_mean m f g (m - 1) (λ j q. s j (omega arith)), s i h)
  within_agree (suc more) i h =
      rw (
        causal_mean m f g (m - 1) (λ j q. s j (omega arith)),
        s i h,
        within_agree more (i - 1) (omega arith),
        within_agree more (i - m) (omega arith),
      )

pub causal_holt_winters : (m : ℕ) (w : Weights) → Causal (holt_winters_line m w)
unfolding holt_winters_line fit_line
causal_holt_winters m w f g b s = go (ltb b m) refl
  where
    go : (t : Bool) → ltb b m ≡ t
        → cond t (f b) (total (fit_within b m w f b)) ≡ cond t (g b) (total (fit_within b m w g b))
    go true e = s b (omega arith)
    go false e = let h = ltb-false b m e in rw (within_agree m w f g b s (omega arith) b b (omega arith))
