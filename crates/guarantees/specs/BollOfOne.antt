-- `boll_positions` with n 1: a window of one mean has no deviation over n - 1, which is 0, so every cell is flat, for
-- every k. Assumes nothing.
use Rattle.std.specs.Prelude.{◌≡◌, refl, Bool, true, false, List, [], ◌∷◌, ◌⊎◌, ℕ, zero, suc, ◌+◌, ◌-◌, ◌*◌, ◌<◌, T, ℤ, length, get_or, Float, Ok}
use Rattle.std.proofs.Common.{sym, inl, inr, zero-add, zero-mul, mul-one, one-mul, arith, lt-ltb}
use Rattle.std.proofs.Math.Nat.{sub-zero}
use Rattle.std.specs.Float.{nan, inf, fin, binary64}
use Rattle.std.specs.Float.Ieee.{fits, up, down, neg, add, sub, mul, div, lt, of_int, sum, round}
use Rattle.std.specs.Float.Ieee.Fits.{div-fits}
use Rattle.rounding.proofs.Opposite.{own}
use Rattle.rounding.proofs.NotANumber.{nan_last, nan_factor, not_below_nan}
use Rattle.rounding_order.proofs.Itself.{less_itself}
use Rattle.rounding_root.specs.Root.{sqrt_of}
use Rattle.calls.proofs.Cells.{cell_at, room_after}
use Rattle.values.specs.Accepted.{accepted}
use Rattle.cells.specs.Line.{Line, line, plus_zero, minus_zero}
use Rattle.cells.proofs.Line.{from_bar_lem}
use Rattle.windows.specs.Window.{sum_from, over, mean}
use Rattle.deviations.specs.Deviation.{square, deviation}
use Rattle.rules_held.specs.Held.{flat}
use Rattle.calls.specs.Answer.{answered_with}
use Rattle.rules_bands.specs.Boll.{outside_at, outside_bands, boll_line, BollCall}

-- ---- the mean of one cell is the cell

with_minus_zero : (t : Bool) (b c : ℕ) → sum binary64 true 0 t b c ≡ round binary64 t b c
unfolding sum
with_minus_zero true b c = rw zero-add
with_minus_zero false zero c = refl
with_minus_zero false (suc b) c = rw (lt-ltb 0 (suc b) (omega arith), sub-zero)

from_minus_zero : (x : Float) → T (fits binary64 x) → add binary64 minus_zero x ≡ x
unfolding add
from_minus_zero nan f = refl
from_minus_zero (inf s) f = refl
from_minus_zero (fin s m e) f =
    rw (zero-mul, with_minus_zero s (m * up e * 1) (1 * down e), mul-one, one-mul) (own s m e f)

over_one : (x : Float) → T (fits binary64 x) → over 1 x ≡ x
unfolding div of_int round
over_one nan f = refl
over_one (inf true) f = refl
over_one (inf false) f = refl
over_one (fin true m e) f = rw (mul-one, one-mul) (own true m e f)
over_one (fin false m e) f = rw (mul-one, one-mul) (own false m e f)

-- ---- it has no deviation over 0

-- over 0 divides a root of nothing: 0 / 0
root_over_zero : (z : Float) → (z ≡ nan) ⊎ (z ≡ plus_zero)
    → sqrt_of binary64 (over 0 (add binary64 minus_zero (square z))) ≡ nan
unfolding sqrt_of div add mul sum round of_int
root_over_zero z (inl e) = rw e
root_over_zero z (inr e) = rw e

no_deviation : (x : Float) → T (fits binary64 x)
    → sqrt_of binary64
    (over 0 (add binary64 minus_zero (square (sub binary64 x (over 1 (add binary64 minus_zero x)))))) ≡ nan
no_deviation x f =
    let e : over 1 (add binary64 minus_zero x) ≡ x = rw (from_minus_zero x f) (over_one x f) in
    rw e (root_over_zero (sub binary64 x x) (less_itself x))

-- ---- a width that is NaN leaves the position flat

no_width : (average middle k : Float) → outside_at average middle k nan ≡ flat
unfolding sub neg add lt
no_width average middle k = rw (nan_factor k, nan_last middle, not_below_nan average)

-- ---- the rule

mean_fits : (f : Line) (i : ℕ) → T (fits binary64 (mean 1 f i))
unfolding mean
mean_fits f i = rw (from_bar_lem 0 plus_zero _ i (omega arith)) (div-fits binary64 _ _)

boll_of_one : (k : Float) (f : Line) (i : ℕ) → boll_line 1 k f i ≡ flat
unfolding outside_bands deviation sum_from
boll_of_one k f i =
    let g = mean 1 f in
    let bar : i + 1 - 1 + 0 ≡ i = omega arith in
    let width : deviation minus_zero 0 1 g i ≡ nan =
    rw (from_bar_lem 0 nan _ i (omega arith), bar) (no_deviation (g i) (mean_fits f i)) in
    rw (from_bar_lem 0 flat _ i (omega arith), width) (no_width (g i) (mean 1 g i) k)

-- ---- the statement

-- Bollinger with n 1: every cell is 0.
pub boll_of_one_is_flat : (s : List Float) {out₀ out₁ : List ℤ} {work₀ work₁ : List Float} (k : Float)
    → BollCall s 1 k out₀ work₀ (Ok (length s)) out₁ work₁
    → (i : ℕ) → i < length s → get_or out₁ i flat ≡ flat
unfolding answered_with
boll_of_one_is_flat s {out₀ = out₀} {work₀ = work₀} k c i h =
    let room = (room_after accepted s (length out₀) (length work₀ ∷ []) _ (length s) (sym c.call.answer)).out_long in
    rw (cell_at flat c.call room i h) (boll_of_one k (line s) i)
