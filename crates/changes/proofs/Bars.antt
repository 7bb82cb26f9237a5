-- Changes, bar by bar. Assumes nothing.
use mathlib.Core.Path.{◌≡◌}
use Prim.Native.Nat.{ℕ, zero, suc, ◌-◌, ◌<◌}
use native.Mathlib.Omega.{arith}
use lib.Ieee.{Float, binary64, sub}
use Rattle.cells.specs.Line.{Line, plus_zero}
use Rattle.changes.specs.Changes.{change, gain, loss, gains, losses}

pub change_is : (d : Float) (f : Line) (i : ℕ) → 0 < i → sub binary64 (f i) (f (i - 1)) ≡ change d f i
unfolding change
change_is d f zero h = absurd (omega arith)
change_is d f (suc i) h = let last : suc i - 1 ≡ i = omega arith in rw last

module _ (f : Line) (i : ℕ) {c x : Float} where
  pub gain_is : c ≡ change plus_zero f i → x ≡ gain c → x ≡ gains f i
  unfolding gains
  gain_is p q = rw (q, p)

  pub loss_is : c ≡ change plus_zero f i → x ≡ loss c → x ≡ losses f i
  unfolding losses
  loss_is p q = rw (q, p)
