-- No look-ahead of the passes: the line is causal once it is known which of them copy. Assumes nothing.
use mathlib.Core.Bool.{Bool, true, false}
use Prim.Native.Nat.{ℕ, suc, ◌-◌, ◌/◌}
use native.Mathlib.Nat.{le_refl}
use native.Mathlib.Omega.{arith}
use lib.Ieee.{Float, nan}
use Rattle.cells.specs.Line.{plus_zero, Causal}
use Rattle.cells.specs.Search.{non_zero, first_bar}
use Rattle.cells.proofs.Line.{causal_then, causal_from}
use Rattle.cells.proofs.Carried.{carried_same}
use Rattle.cells.proofs.Search.{first_bar_same}
use Rattle.changes.proofs.Causal.{causal_change}
use Rattle.averages.specs.Blend.{blend, ema_alpha}
use Rattle.jurik.specs.Jurik.{averaged, copied, passed, is_number, price_change, smooth1, smooth2, jv, jurik_with}

module _ (valid : Float → Bool) (none : Float) where
  pub causal_averaged : (alpha : Float) → Causal (averaged valid none alpha)
  unfolding averaged
  causal_averaged alpha f g b s =
      let a = first_bar (λ j. valid (g j)) (suc b) in
      rw (first_bar_same (λ j. valid (f j)) (λ j. valid (g j)) (suc b) (λ j l. rw (s j (omega arith))))
      (carried_same none (blend alpha) a (f a) (g a) f g b (λ l. s a l) s)

  pub causal_copied : Causal (copied valid none)
  unfolding copied
  causal_copied f g b s = rw (s b (le_refl b))

  pub causal_passed : (alpha : Float) (copy : Bool) → Causal (passed valid none alpha copy)
  causal_passed alpha true = causal_copied
  causal_passed alpha false = causal_averaged alpha

pub causal_price_change : Causal price_change
unfolding price_change
causal_price_change = causal_from 1 nan (λ f g b s l. rw (causal_change plus_zero f g b s))

pub causal_jv : (power : Float) → Causal (jv power)
unfolding jv
causal_jv power = causal_from 2 plus_zero (λ f g b s l. rw (s b (omega arith), s (b - 1) (omega arith)))

-- three times averaged, three times copied, or any of the others
pub causal_jurik_with : (first second third : Bool) (n : ℕ) (power : Float)
    → Causal (jurik_with first second third n power)
unfolding jurik_with smooth2 smooth1
causal_jurik_with first second third n power =
    let alpha1 = ema_alpha (n / 2) in
    causal_then (causal_then (causal_then (causal_then causal_price_change (causal_passed is_number nan alpha1 first))
    (causal_passed is_number nan alpha1 second)) (causal_jv power))
    (causal_passed non_zero plus_zero (ema_alpha (n / 3)) third)
