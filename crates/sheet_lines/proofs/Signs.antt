-- The float of a whole number below zero is that of its magnitude, negated. Assumes nothing.
use mathlib.Core.Path.{◌≡◌, refl}
use mathlib.Core.Bool.{Bool, true, false, not, cond}
use Prim.Native.Nat.{ℕ, zero, suc, ◌<◌, ◌^◌}
use native.Mathlib.Omega.{arith}
use lib.Dec.{T, le→leb}
use lib.IntN.{pos, neg_ℤ}
use lib.Ieee.{Float, Format, binary64, neg, odd, units, round, of_int, in_float}

neg_odd : (d : ℕ) (s : Bool) (q k l : ℕ) → neg (odd d s q k l) ≡ odd d (not s) q k l
unfolding neg odd
neg_odd d s zero k l = refl
neg_odd d s (suc q) k l = refl

neg_cond : (t : Bool) (x y : Float) → neg (cond t x y) ≡ cond t (neg x) (neg y)
neg_cond true x y = refl
neg_cond false x y = refl

neg_units : (f : Format) (s : Bool) (q k : ℕ) → neg (units f s q k) ≡ units f (not s) q k
unfolding units neg
neg_units f s q k = rw (neg_cond, neg_odd)

neg_round : (f : Format) (s : Bool) (n d : ℕ) → neg (round f s n d) ≡ round f (not s) n d
unfolding round
neg_round f s n d = neg_units f s _ _

pub neg_whole : (v : ℕ) → (v ≡ 0 → ⊥) → neg (of_int binary64 (pos v)) ≡ of_int binary64 (neg_ℤ (pos v))
unfolding of_int
neg_whole zero h = absurd (h refl)
neg_whole (suc n) h = neg_round binary64 false (suc n) 1

-- a number of at most 12 digits is a float
pub few_is_float : (v : ℕ) → v < 10 ^ 12 → T (in_float binary64 (pos v))
unfolding in_float
few_is_float v h = le→leb v (2 ^ 53) (omega arith)
