-- The lines of the bands: no look-ahead, NaN from period 5 on, and the deviation of one close and of more. Assumes
-- nothing.
use mathlib.Core.Path.{◌≡◌, refl}
use mathlib.Core.Bool.{Bool, true, false, cond}
use Prim.Native.Nat.{ℕ, ◌-◌, ◌<◌, ◌≤◌}
use native.Mathlib.Omega.{arith}
use borrow.Author.Tests.{lt-ltb, le-ltb}
use lib.Dec.{ltb}
use lib.Ieee.{Float, nan}
use Rattle.cells.specs.Line.{Line, plus_zero, Causal}
use Rattle.cells.proofs.Line.{causal_then, before_bar}
use Rattle.smoother_table.specs.Coefficients.{coefficients}
use Rattle.smoother.proofs.Smoother.{causal_smooth}
use Rattle.smoother.proofs.WarmUp.{nan_from_4, nan_throughout}
use Rattle.deviations.specs.Deviation.{deviation}
use Rattle.deviations.proofs.Causal.{causal_deviation}
use Rattle.outer_lines.proofs.Lines.{causal_upper, causal_lower, nan_upper, nan_lower}
use Rattle.bands.specs.Bands.{bands_middle, bands_deviation, bands_width, bands_upper, bands_lower}

-- ---- no look-ahead

either_line : (t : Bool) {F G : Line → Line} → Causal F → Causal G → Causal (λ f. cond t (F f) (G f))
either_line true p q = p
either_line false p q = q

pub causal_bands_deviation : (n : ℕ) → Causal (bands_deviation n)
unfolding bands_deviation
causal_bands_deviation n = either_line (ltb 1 n) (causal_deviation plus_zero (n - 1) n) (λ f g b s. refl)

pub causal_bands_middle : (n : ℕ) → Causal (bands_middle n)
unfolding bands_middle
causal_bands_middle n = causal_smooth (coefficients n)

pub causal_bands_width : (n m : ℕ) → Causal (bands_width n m)
unfolding bands_width
causal_bands_width n m = causal_then (causal_bands_deviation n) (causal_smooth (coefficients m))

module _ (n : ℕ) (k : Float) (m : ℕ) where
  pub causal_bands_upper : Causal (bands_upper n k m)
  unfolding bands_upper
  causal_bands_upper = causal_upper k (causal_bands_middle n) (causal_bands_width n m)

  pub causal_bands_lower : Causal (bands_lower n k m)
  unfolding bands_lower
  causal_bands_lower = causal_lower k (causal_bands_middle n) (causal_bands_width n m)

-- ---- the deviation

-- of two closes or more, and of one
pub deviation_of_some : (n : ℕ) (f : Line) → 1 < n → bands_deviation n f ≡ deviation plus_zero (n - 1) n f
unfolding bands_deviation
deviation_of_some n f h = rw (lt-ltb 1 n h)

pub deviation_of_one : (n : ℕ) (f : Line) → n ≤ 1 → bands_deviation n f ≡ (λ i. plus_zero)
unfolding bands_deviation
deviation_of_one n f h = rw (le-ltb 1 n h)

-- ---- NaN

-- it begins at bar n - 1, so that from period 5 on the smoother's first four cells are NaN
pub nan_width : (n m : ℕ) (f : Line) → 5 ≤ n → (i : ℕ) → bands_width n m f i ≡ nan
unfolding bands_width deviation
nan_width n m f h =
    nan_throughout (coefficients m) (bands_deviation n f)
    (λ i l. rw (deviation_of_some n f (omega arith)) (before_bar (n - 1) nan _ i (omega arith)))

-- of period 4 the cell at bar 2 is, which bar 4 reads
pub nan_from_bar_4 : (n m : ℕ) (f : Line) → 4 ≤ n → (i : ℕ) → 4 ≤ i → bands_width n m f i ≡ nan
unfolding bands_width deviation
nan_from_bar_4 n m f h =
    nan_from_4 (coefficients m) (bands_deviation n f)
    (rw (deviation_of_some n f (omega arith)) (before_bar (n - 1) nan _ 2 (omega arith)))

-- both outer lines are NaN at every bar
pub nan_bands : (n : ℕ) (k : Float) (m : ℕ) (f : Line) → 5 ≤ n → (i : ℕ)
    → (bands_upper n k m f i ≡ nan) × (bands_lower n k m f i ≡ nan)
unfolding bands_upper bands_lower
nan_bands n k m f h i =
    (nan_upper k _ _ i (nan_width n m f h i), nan_lower k _ _ i (nan_width n m f h i))
