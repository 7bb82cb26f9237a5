-- A number less itself. Assumes nothing.
use mathlib.Core.Path.{◌≡◌, refl}
use mathlib.Core.Bool.{Bool, true, false, not}
use mathlib.Core.Logic.{◌⊎◌, inl, inr}
use Prim.Native.Nat.{ℕ, ◌-◌, ◌*◌, ◌<◌}
use native.Mathlib.Nat.{mul-pos}
use native.Mathlib.Omega.{arith}
use borrow.Author.Tests.{le-ltb}
use lib.IntN.{ℤ}
use lib.Ieee.{Float, nan, inf, fin, binary64, up, down, neg, add, sub, sum}
use lib.Ieee.Fits.{down_pos}
use Rattle.cells.specs.Line.{plus_zero}
use Rattle.rounding_order.proofs.Rounded.{zero_rounded}

nothing_left : (s : Bool) (a c : ℕ) → 0 < c → sum binary64 s a (not s) a c ≡ plus_zero
unfolding sum
nothing_left true a c C =
    let none : a - a ≡ 0 = omega arith in rw (le-ltb a a (omega arith), none) (zero_rounded c C)
nothing_left false a c C =
    let none : a - a ≡ 0 = omega arith in rw (le-ltb a a (omega arith), none) (zero_rounded c C)

-- one that is no NaN and not infinite
pub number_less_itself : (s : Bool) (m : ℕ) (e : ℤ) → sub binary64 (fin s m e) (fin s m e) ≡ plus_zero
unfolding sub neg add
number_less_itself s m e = nothing_left s (m * up e * down e) (down e * down e) (mul-pos (down_pos e) (down_pos e))

-- any
pub less_itself : (x : Float) → (sub binary64 x x ≡ nan) ⊎ (sub binary64 x x ≡ plus_zero)
unfolding sub neg add
less_itself nan = inl refl
less_itself (inf true) = inl refl
less_itself (inf false) = inl refl
less_itself (fin s m e) = inr (number_less_itself s m e)
