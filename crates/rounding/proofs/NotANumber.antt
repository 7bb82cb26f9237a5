-- Sums, products and comparisons with NaN. Assumes nothing.
use Rattle.std.proofs.Common.{◌≡◌, false, refl}
use lib.Ieee.{Float, nan, inf, fin, binary64, add, mul, lt}

pub nan_last : (x : Float) → add binary64 x nan ≡ nan
unfolding add
nan_last nan = refl
nan_last (inf s) = refl
nan_last (fin s m e) = refl

pub nan_factor : (x : Float) → mul binary64 x nan ≡ nan
unfolding mul
nan_factor nan = refl
nan_factor (inf s) = refl
nan_factor (fin s m e) = refl

pub not_below_nan : (x : Float) → lt x nan ≡ false
unfolding lt
not_below_nan nan = refl
not_below_nan (inf s) = refl
not_below_nan (fin s m e) = refl
