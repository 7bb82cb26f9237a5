-- A weight times a position in an i64, and a cell that it is added to. Assumes nothing.
use mathlib.Core.Path.{◌≡◌, ap, ◌∙◌}
use mathlib.Core.Bool.{true, false}
use Prim.Native.Nat.{◌≤◌}
use native.Mathlib.Omega.{arith}
use lib.IntN.{ℤ, pos, neg_ℤ, nat_abs, ◌+ℤ◌, ◌-ℤ◌, ◌*ℤ◌, +ℤ_idl, *ℤ-zero}
use lib.Ieee.{Float, lt}
use mir.Syntax.{w64}
use mir.Val.{SFits}
use Rattle.averages_ticks.proofs.Whole.{in_i64, held, kept}
use Rattle.rounding_laws.proofs.Integers.{abs_add, abs_neg}
use Rattle.cells.specs.Line.{plus_zero}
use Rattle.rules.specs.Position.{whole_position}
use Rattle.basket.specs.Basket.{largest_weight}
use Rattle.basket.specs.inner.Adding.{largest_so_far}
use Rattle.basket.proofs.Netting.{times_long, times_short, weighted_small}

module _ (w : ℤ) (h : nat_abs w ≤ largest_weight) where
  pub weight_held : held w ≡ w
  weight_held = kept w (omega arith)

  pub minus_fits : SFits w64 (pos 0 -ℤ held w)
  minus_fits = rw (weight_held, +ℤ_idl (neg_ℤ w)) (in_i64 (neg_ℤ w) (rw (abs_neg w) (omega arith)))

  -- above 0, below 0, and else
  module _ (x : Float) where
    pub weighted_long : lt plus_zero x ≡ true → held w ≡ w *ℤ whole_position x
    weighted_long e = rw (e, weight_held, times_long w)

    pub weighted_short : lt plus_zero x ≡ false → lt x plus_zero ≡ true → held (pos 0 -ℤ held w) ≡ w *ℤ whole_position x
    weighted_short e f =
        rw (e, f, weight_held, +ℤ_idl (neg_ℤ w), times_short w) (kept (neg_ℤ w) (rw (abs_neg w) (omega arith)))

    pub weighted_flat : lt plus_zero x ≡ false → lt x plus_zero ≡ false → pos 0 ≡ w *ℤ whole_position x
    weighted_flat e f = rw (e, f, *ℤ-zero w)

    -- added to a cell that has room for it, by the numbers as an i64 holds them
    module _ (z : ℤ) (k : nat_abs z ≤ largest_so_far) {r : ℤ} (e : r ≡ held w *ℤ whole_position x) where
      is : r ≡ w *ℤ whole_position x
      is = e ∙ ap (λ (v : ℤ). v *ℤ whole_position x) weight_held

      r_small : nat_abs r ≤ largest_weight
      r_small = let part = weighted_small w x in rw is (omega arith)

      sum_small : nat_abs (z +ℤ r) ≤ 32000
      sum_small = let sum = abs_add z r in let part = r_small in omega arith

      summed : held z +ℤ held r ≡ z +ℤ r
      summed = rw (kept z (omega arith), kept r (let part = r_small in omega arith))

      pub sum_fits : SFits w64 (held z +ℤ held r)
      sum_fits = rw summed (in_i64 (z +ℤ r) (let most = sum_small in omega arith))

      pub sum_is : held (held z +ℤ held r) ≡ z +ℤ held w *ℤ whole_position x
      sum_is =
          ap held summed ∙ kept (z +ℤ r) (let most = sum_small in omega arith) ∙ ap (λ (v : ℤ). z +ℤ v) e
