-- The cell of a band: where it is not flat, it is the same for every narrower band. Nothing is asked of the mean and
-- the middle, and of k and the margin only that they are not below 0. Assumes nothing.
use mathlib.Core.Path.{◌≡◌, refl, sym, ◌∙◌}
use mathlib.Core.Bool.{Bool, true, false, cond, true≢false}
use Prim.Native.Nat.{ℕ}
use native.Mathlib.Omega.{arith}
use lib.IntN.{ℤ}
use lib.Ieee.{Float, nan, inf, fin, binary64, neg, add, sub, mul, lt, is_nan}
use Rattle.extremes.proofs.Order.{lt_between}
use Rattle.cells.specs.Line.{plus_zero}
use Rattle.rounding_order.proofs.Enclosed.{Widths, neither_way}
use Rattle.deviations.specs.Deviation.{upper_band, lower_band}
use Rattle.rules_held.specs.Held.{flat, long, short}
use Rattle.rules_bands.specs.Boll.{beyond}
use Rattle.rounding_order.proofs.Outward.{
  Inside,
  lt_self,
  inside_self,
  inside_trans,
  above_both,
  below_both,
  add_inside,
  add_inside_first,
  sub_inside,
  sub_inside_first,
  product_above,
  mul_inside,
  across,
}

-- ---- what a narrower band keeps

-- What is above uy is above ux, what is below ly is below lx, and what is below ly is not above ux.
record Narrow (s ux lx uy ly : Float) : Type 0 where
  above : lt uy s ≡ true → lt ux s ≡ true
  below : lt s ly ≡ true → lt s lx ≡ true
  apart : lt s ly ≡ true → lt ux s ≡ false

abbrev three : Bool → Bool → ℤ
three p q = cond p long (cond q short flat)

long_moves : long ≡ flat → ⊥
long_moves e = let z : ◌≡◌ {A = ℕ} 0 1 = cc in omega arith

short_moves : short ≡ flat → ⊥
short_moves e = let z : ◌≡◌ {A = ℕ} 0 1 = cc in omega arith

module _ {s ux lx uy ly : Float} (n : Narrow s ux lx uy ly) where
  kept : (three (lt uy s) (lt s ly) ≡ flat → ⊥) → three (lt ux s) (lt s lx) ≡ three (lt uy s) (lt s ly)
  kept h = go (lt uy s) (lt s ly) n.above n.below n.apart h
    where
      go : (p q : Bool) → (p ≡ true → lt ux s ≡ true) → (q ≡ true → lt s lx ≡ true) → (q ≡ true → lt ux s ≡ false)
          → (three p q ≡ flat → ⊥) → three (lt ux s) (lt s lx) ≡ three p q
      go true q f g k h = rw (f refl)
      go false true f g k h = rw (k refl, g refl)
      go false false f g k h = absurd (h refl)

  still_flat : three (lt ux s) (lt s lx) ≡ flat → three (lt uy s) (lt s ly) ≡ flat
  still_flat h = go (lt uy s) (lt s ly) n.above n.below n.apart
    where
      go : (p q : Bool) → (p ≡ true → lt ux s ≡ true) → (q ≡ true → lt s lx ≡ true) → (q ≡ true → lt ux s ≡ false)
          → three p q ≡ flat
      go true q f g k = absurd (long_moves (rw (f refl) at h))
      go false true f g k = absurd (short_moves (rw (k refl, g refl) at h))
      go false false f g k = refl

-- ---- from the order of the bands

first_number : (x y : Float) → lt x y ≡ true → is_nan x ≡ false
unfolding lt is_nan
first_number nan y e = sym e
first_number (inf s) y e = refl
first_number (fin s m d) y e = refl

one_way : (x y : Float) → lt x y ≡ true → lt y x ≡ false
one_way x y e = neither_way _ (λ z. true≢false (sym (lt_between true y x y (first_number x y e) z e) ∙ lt_self y))

narrow : (s ux lx uy ly : Float) → Inside false ux uy → Inside true lx ly → Inside true ux ly → Narrow s ux lx uy ly
narrow s ux lx uy ly p q r = record {
  above = λ e. above_both ux uy s p e;
  below = λ e. below_both lx ly s q e;
  apart = λ e. one_way s ux (below_both ux ly s r e);
}

module _ (e m k x y : Float) (E : lt e plus_zero ≡ false) (K : lt k plus_zero ≡ false) (w : Widths x y) where
  y_above : lt y plus_zero ≡ false
  y_above = lt_between false y x plus_zero w.number w.order w.from_zero

  wider : Inside false (mul binary64 k x) (mul binary64 k y)
  wider = mul_inside k x y K w.from_zero w.number w.order

  upper_inside : Inside false (upper_band k m x) (upper_band k m y)
  upper_inside = add_inside false m (mul binary64 k x) (mul binary64 k y) wider

  lower_inside : Inside true (lower_band k m x) (lower_band k m y)
  lower_inside = sub_inside false m (mul binary64 k x) (mul binary64 k y) wider

  bands_apart : Inside true (upper_band k m x) (lower_band k m y)
  unfolding sub
  bands_apart =
      add_inside true m (mul binary64 k x) (neg (mul binary64 k y))
      (across (mul binary64 k x) (mul binary64 k y) (product_above k x K w.from_zero) (product_above k y K y_above)
      wider)

  margins_apart : Inside true (add binary64 (upper_band k m x) e) (sub binary64 (lower_band k m y) e)
  unfolding sub
  margins_apart =
      let u = upper_band k m x in
      let l = lower_band k m y in
      inside_trans true (add binary64 u e) (add binary64 u (neg e)) (add binary64 l (neg e))
      (add_inside true u e (neg e) (across e e E E (inside_self false e)))
      (add_inside_first true (neg e) u l bands_apart)

  narrower : (s : Float)
      → Narrow s (add binary64 (upper_band k m x) e) (sub binary64 (lower_band k m x) e)
      (add binary64 (upper_band k m y) e) (sub binary64 (lower_band k m y) e)
  narrower s =
      narrow s _ _ _ _
      (add_inside_first false e (upper_band k m x) (upper_band k m y) upper_inside)
      (sub_inside_first true e (lower_band k m x) (lower_band k m y) lower_inside)
      margins_apart

  -- ---- the laws

  -- a cell that is not flat is the same for a narrower band
  pub beyond_kept : (s : Float) → (beyond e s m k y ≡ flat → ⊥) → beyond e s m k x ≡ beyond e s m k y
  beyond_kept s h = kept (narrower s) h

  -- and a flat one is flat for a wider band
  pub beyond_flat : (s : Float) → beyond e s m k x ≡ flat → beyond e s m k y ≡ flat
  beyond_flat s h = still_flat (narrower s) h
