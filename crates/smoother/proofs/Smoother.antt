-- The ultimate smoother of John Ehlers: what `ultimate_smoother` answers and writes. Assumes nothing.
use Rattle.std.proofs.Common.{◌≡◌, ℕ, zero, suc, ◌-◌, ◌<◌, ◌≤◌, List, sym, refl, arith}
use lib.Ieee.{Float, nan, neg, add, sub, mul, div}
use Rattle.rounding.proofs.NotANumber.{nan_last, nan_factor}
use Rattle.cells.specs.Line.{Line, Causal}
use Rattle.cells.specs.Written.{Writing}
use Rattle.cells.proofs.Written.{writing_same}
use Rattle.smoother_table.specs.declared.Coefficients.{Coefficients}
use Rattle.smoother_table.specs.Coefficients.{a1_of, b1_of, of_pair, coefficients}
use Rattle.smoother.specs.Smoother.{formula, smooth}

module _ (c : Coefficients) (f : Line) where
  -- the cells as the code finds them
  pub smooth_first : (i : ℕ) → i < 4 → f i ≡ smooth c f i
  unfolding smooth
  smooth_first zero h = refl
  smooth_first (suc zero) h = refl
  smooth_first (suc (suc zero)) h = refl
  smooth_first (suc (suc (suc zero))) h = refl
  smooth_first (suc (suc (suc (suc i)))) h = absurd (omega arith)

  pub smooth_next : (i : ℕ) → 4 ≤ i
      → formula c (f i) (f (i - 1)) (f (i - 2)) (smooth c f (i - 1)) (smooth c f (i - 2)) ≡ smooth c f i
  unfolding smooth
  smooth_next zero h = absurd (omega arith)
  smooth_next (suc zero) h = absurd (omega arith)
  smooth_next (suc (suc zero)) h = absurd (omega arith)
  smooth_next (suc (suc (suc zero))) h = absurd (omega arith)
  smooth_next (suc (suc (suc (suc i)))) h =
      let one : suc (suc (suc (suc i))) - 1 ≡ suc (suc (suc i)) = omega arith in
      let two : suc (suc (suc (suc i))) - 2 ≡ suc (suc i) = omega arith in
      rw (one, two)

-- no look-ahead
pub causal_smooth : (c : Coefficients) → Causal (smooth c)
unfolding smooth
causal_smooth c f g zero s = s 0 (omega arith)
causal_smooth c f g (suc zero) s = s 1 (omega arith)
causal_smooth c f g (suc (suc zero)) s = s 2 (omega arith)
causal_smooth c f g (suc (suc (suc zero))) s = s 3 (omega arith)
causal_smooth c f g (suc (suc (suc (suc i)))) s =
    rw (
      s (suc (suc (suc (suc i)))) (omega arith),
      s (suc (suc (suc i))) (omega arith),
      s (suc (suc i)) (omega arith),
      causal_smooth c f g (suc (suc (suc i))) (λ j l. s j (omega arith)),
      causal_smooth c f g (suc (suc i)) (λ j l. s j (omega arith)),
    )

-- the first cells, copied
pub copied : {n : ℕ} {f : Line} {old now : List Float} (c : Coefficients) → Writing n f old now → n ≤ 4
    → Writing n (smooth c f) old now
copied {f = f} c w h = writing_same w (λ i l. smooth_first c f i (omega arith))

-- ---- NaN

-- An input that is NaN makes the cell NaN, and so does a cell before it that is.
module _ (c : Coefficients) (x y z u : Float) where
  pub nan_newest : formula c nan x y z u ≡ nan
  unfolding formula add sub
  nan_newest = rw nan_factor

  pub nan_second : formula c x nan y z u ≡ nan
  unfolding formula add sub
  nan_second = rw (nan_factor, nan_last)

  pub nan_third : formula c x y nan z u ≡ nan
  unfolding formula add sub neg
  nan_third = rw (nan_factor, nan_last)

-- period 0 gives NaN from bar 4 on
pub period_0 : (f : Line) (i : ℕ) → 4 ≤ i → smooth (coefficients 0) f i ≡ nan
unfolding coefficients of_pair a1_of b1_of formula add sub mul div neg
period_0 f i h = sym (smooth_next (coefficients 0) f i h)
