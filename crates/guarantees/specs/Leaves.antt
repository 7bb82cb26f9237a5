-- The square root, the smoother's table and the thresholds of tanh. Assumes nothing.
use Rattle.std.specs.Prelude.{◌≡◌, true, false, ℕ, suc, ◌+◌, ◌<◌, ◌≤◌, T, ℤ, Float}
use Rattle.std.specs.Float.{fin, binary64}
use Rattle.std.specs.Float.Ieee.{lt, le, fits}
use Rattle.limits.specs.Limits.{longest_period}
use Rattle.rounding_root.specs.Root.{sqrt_of}
use Rattle.rounding_root.specs.Meaning.{NearestRoot}
use Rattle.rounding_root.proofs.Meaning.{nearest_root_lem}
use Rattle.smoother_table.specs.Coefficients.{a1_of, b1_of}
use Rattle.smoother_table.specs.Bounds.{InBounds}
use Rattle.smoother_table.proofs.Bounds.{in_bounds_lem, a1_rises}
use Rattle.rules_tanh.specs.Tanh.{threshold_of, tanh_cell}
use Rattle.rules_tanh.proofs.Thresholds.{thresholds_rise}
use Rattle.rules_tanh.proofs.Order.{tanh_rises}

-- The root of every f64 above 0 is the f64 nearest the true root, and no other is as near.
pub root_is_nearest : (m : ℕ) (e : ℤ) → let x = fin false (suc m) e in T (fits binary64 x)
    → NearestRoot binary64 x (sqrt_of binary64 x)
root_is_nearest = nearest_root_lem binary64

-- Over the whole table 0 < a1 < 1, and the size of b1 is at most 2 · a1.
pub table_in_bounds : (period : ℕ) → 0 < period → period ≤ longest_period → InBounds (a1_of period) (b1_of period)
table_in_bounds = in_bounds_lem

-- Over the whole table a1 rises.
pub table_rises : (period : ℕ) → 0 < period → period < longest_period → lt (a1_of period) (a1_of (period + 1)) ≡ true
table_rises = a1_rises

-- Over the whole table the thresholds rise, from 0 on.
pub tanh_thresholds_rise : (k : ℕ) → k < 100 → lt (threshold_of k) (threshold_of (suc k)) ≡ true
tanh_thresholds_rise = thresholds_rise

-- A larger score never gives a smaller cell: for any two scores that are numbers, negative ones too.
pub tanh_never_falls : (x y : Float) → le x y ≡ true → le (tanh_cell x) (tanh_cell y) ≡ true
tanh_never_falls = tanh_rises
