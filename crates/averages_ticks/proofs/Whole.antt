-- Whole numbers in an i64: a number of small size keeps its value there, and sizes of sums. Assumes nothing.
use mathlib.Core.Path.{◌≡◌, refl}
use mathlib.Core.Bool.{true, false}
use Prim.Native.Nat.{ℕ, ◌^◌, ◌≤◌}
use native.Mathlib.Omega.{arith}
use borrow.Author.Tests.{ltb-true}
use lib.Ieee.Nearest.{closest}
use lib.IntN.{ℤ, pos, negsuc, neg_ℤ, nat_abs}
use lib.Signed.{lt_z}
use mir.Syntax.{w64}
use mir.Val.{SFits, of_z, to_z}
use mir.ValLaws.{to_z-of_z}
use Rattle.averages_ticks.specs.TickMean.{to_tick}

pub in_i64 : (z : ℤ) → nat_abs z ≤ 2 ^ 40 → SFits w64 z
in_i64 (pos n) h = record { sfits = omega arith }
in_i64 (negsuc n) h = record { sfits = omega arith }

-- z, as it is read from an i64 that it was written to
abbrev pub held : ℤ → ℤ
held z = to_z w64 (of_z w64 z)

pub kept : (z : ℤ) → nat_abs z ≤ 2 ^ 40 → held z ≡ z
kept z h = to_z-of_z w64 z (in_i64 z h)

-- ---- the sign, by the code's test

pub tick_below : (z : ℤ) (n : ℕ) → lt_z z (pos 0) ≡ true → to_tick z n ≡ neg_ℤ (pos (closest (nat_abs z) n))
unfolding to_tick
tick_below (pos a) n e = let l = ltb-true a 0 e in absurd (omega arith)
tick_below (negsuc a) n e = refl

pub tick_above : (z : ℤ) (n : ℕ) → lt_z z (pos 0) ≡ false → to_tick z n ≡ pos (closest (nat_abs z) n)
unfolding to_tick
tick_above (pos a) n e = refl
tick_above (negsuc a) n e = let z : ◌≡◌ {A = ℕ} 0 1 = cc in absurd (omega arith)
