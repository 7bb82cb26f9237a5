-- Floats as multiples of their format's smallest value. Assumes nothing.
use mathlib.Core.Path.{◌≡◌, sym, ap, ◌∙◌, subst}
use mathlib.Core.Bool.{Bool, cond, ◌&&◌}
use Prim.Native.Nat.{ℕ, zero, suc, ◌+◌, ◌-◌, ◌*◌, ◌/◌, ◌%◌, ◌^◌, ◌≤◌, ◌<◌}
use native.Mathlib.Nat.{
  le_refl,
  lt_of_le_of_lt,
  zero-mul,
  zero-div,
  mul-one,
  mul_assoc,
  mul_comm,
  mul_left_comm,
  mul-lt-mul_of_pos_right,
  lt_of_mul-lt-mul_right,
  mul-div_cancel,
}
use native.Mathlib.Omega.{arith}
use lib.IntN.{ℤ, pos, negsuc}
use lib.Dec.{T, leb, ltb, eqb, lt→ltb, ltb→lt, leb→le}
use lib.Pow.{pow-add, pow_pos, pow-lt}
use lib.Ieee.{Float, nan, inf, fin, Format, prec, emax, low, up, down, odd, units, fits}
use lib.Ieee.Bits.{is_true}
use lib.Ieee.Exact.{HasValue}
use lib.Ieee.Fits.{and_l, and_r, down_pos, odd-fits}
use lib.Ieee.Scale.{finite, overflow}
use Rattle.rounding.specs.Nearest.{in_units}
use Rattle.rounding.proofs.ToWhole.{pow_le_back}

-- ---- by the value

pub value_units : (f : Format) (x : Float) (s : Bool) (a : ℕ) → HasValue x s a (2 ^ low f) → in_units f x ≡ a
value_units f nan s a v = absurd v
value_units f (inf t) s a v = absurd v
value_units f (fin t m e) s a v = ap (λ (y : ℕ). y / down e) v.1 ∙ mul-div_cancel a (down_pos e)

-- ---- what `units` makes

units_odd : (f : Format) (s : Bool) (q k : ℕ) → q * 2 ^ k < overflow f → units f s q k
    ≡ odd (suc (prec f)) s q k (low f)
unfolding units
units_odd f s q k h = ap (λ (b : Bool). cond b (odd (suc (prec f)) s q k (low f)) (inf s))
    (is_true (ltb (q * 2 ^ k) (overflow f)) (lt→ltb (q * 2 ^ k) (overflow f) h))

pub units_fits : (f : Format) (s : Bool) (q k : ℕ) → q ≤ 2 ^ prec f → q * 2 ^ k < overflow f
    → T (fits f (units f s q k))
units_fits f s q k l h =
    subst (λ (x : Float). T (fits f x)) (sym (units_odd f s q k h))
    (odd-fits f (suc (prec f)) s q k (lt_of_le_of_lt l (pow-lt (le_refl (suc (prec f))))) l h)

-- ---- what fits

-- x is m * 2 ^ j smallest values, where m has no more digits than the format keeps
pub record Made (f : Format) (x : Float) (m : ℕ) : Type 0 where
  pub j : ℕ
  pub is : in_units f x ≡ m * 2 ^ j
  pub short : m < 2 ^ prec f
  pub under : m * 2 ^ j < overflow f

place : (l : ℕ) (e : ℤ) → down e ≤ 2 ^ l → (j : ℕ) × ((m : ℕ) → m * up e * 2 ^ l ≡ m * 2 ^ j * down e)
place l (pos a) h = (
  a + l,
  λ m. mul_assoc m (2 ^ a) (2 ^ l) ∙ ap (λ (x : ℕ). m * x) (sym (pow-add 2 a l))
      ∙ sym (mul-one (m * 2 ^ (a + l))),
)
place l (negsuc a) h =
    let le : suc a ≤ l = pow_le_back (suc a) l h in
    let whole : l - suc a + suc a ≡ l = omega arith in (
      l - suc a,
      λ m. ap (λ (x : ℕ). x * 2 ^ l) (mul-one m) ∙ ap (λ (x : ℕ). m * 2 ^ x) (sym whole)
          ∙ ap (λ (x : ℕ). m * x) (pow-add 2 (l - suc a) (suc a)) ∙ sym (mul_assoc m (2 ^ (l - suc a)) (2 ^ suc a)),
    )

made_at : (f : Format) (s : Bool) (m : ℕ) (e : ℤ) → m < 2 ^ prec f → down e ≤ 2 ^ low f
    → m * up e < 2 ^ suc (emax f) * down e → Made f (fin s m e) m
made_at f s m e a b c =
    let at = place (low f) e b in
    let w = at.1 m in
    let big : 2 ^ suc (emax f) * down e * 2 ^ low f
    ≡ overflow f * down e = rw (pow-add 2 (low f) (suc (emax f))) (simp (mul_assoc, mul_comm, mul_left_comm)) in
    record {
      j = at.0;
      is = ap (λ (x : ℕ). x / down e) w ∙ mul-div_cancel (m * 2 ^ at.0) (down_pos e);
      short = a;
      under = lt_of_mul-lt-mul_right (down e) (rw (w, big) at (mul-lt-mul_of_pos_right c (pow_pos (low f))));
    }

pub made_some : (f : Format) (s : Bool) (m : ℕ) (e : ℤ) → T (fits f (fin s (suc m) e))
    → Made f (fin s (suc m) e) (suc m)
unfolding fits
made_some f s m e h =
    let A = eqb (suc m % 2) 1 in
    let B = ltb (suc m) (2 ^ prec f) in
    let C = leb (down e) (2 ^ low f) in
    let D = ltb (suc m * up e) (2 ^ suc (emax f) * down e) in
    let abc = and_l (A && B && C) D h in
    made_at f s (suc m) e
    (ltb→lt (suc m) (2 ^ prec f) (and_r A B (and_l (A && B) C abc)))
    (leb→le (down e) (2 ^ low f) (and_r (A && B) C abc))
    (ltb→lt (suc m * up e) (2 ^ suc (emax f) * down e) (and_r (A && B && C) D h))

pub made : (f : Format) (x : Float) → T (fits f x) → T (finite x) → (m : ℕ) × Made f x m
made f nan h t = absurd t
made f (inf s) h t = absurd t
made f (fin s zero e) h t = (
  0,
  record {
    j = 0;
    is = ap (λ (x : ℕ). x * 2 ^ low f / down e) (zero-mul (up e)) ∙ ap (λ (x : ℕ). x / down e) (zero-mul (2 ^ low f))
        ∙ zero-div (down e);
    short = pow_pos (prec f);
    under = pow_pos (low f + suc (emax f));
  },
)
made f (fin s (suc m) e) h t = (suc m, made_some f s m e h)
