-- Every finite number of a format is a whole number of units, the format's smallest value 2 ^ -low, with a sign.
-- Assumes nothing.
use mathlib.Core.Path.{◌≡◌, refl, sym, ap, ◌∙◌}
use mathlib.Core.Bool.{Bool, true, false, ◌&&◌, ◌||◌, beq, cond}
use Prim.Native.Nat.{ℕ, zero, suc, ◌+◌, ◌-◌, ◌*◌, ◌/◌, ◌%◌, ◌^◌, ◌<◌, ◌≤◌, zero-le}
use native.Mathlib.Nat.{
  zero-mul,
  mul-one,
  mul_assoc,
  mul-div_cancel,
  sub-add_cancel,
  add-zero,
  zero-add,
  add_comm,
  zero-lt-suc,
  mul-pos,
  lt_irrefl,
}
use native.Mathlib.Omega.{arith}
use borrow.Author.Tests.{le-ltb}
use lib.Dec.{T, ltb, leb, eqb, leb→le, eqb-suc-zero}
use lib.IntN.{ℤ, pos, negsuc, nat_abs}
use lib.Pow.{pow-add, pow_pos}
use lib.Ieee.{
  Float,
  nan,
  inf,
  fin,
  Format,
  prec,
  emax,
  low,
  up,
  down,
  unlike,
  level,
  round,
  sum,
  add,
  div,
  lt,
  eq,
  of_int,
  fits,
  below as is_below,
}
use lib.Ieee.Fits.{and_l, and_r, down_pos, round-fits, round_is, of_int-fits}
use lib.Ieee.Exact.{HasValue, units_val}
use lib.Ieee.Order.{kept, drop}
use lib.Ieee.Scale.{grid, overflow}
use lib.Signed.{lt_z}
use Rattle.rounding.specs.Nearest.{in_units, signed, Number, signed_units}
use Rattle.rounding.proofs.ToWhole.{pow_le_back}
use Rattle.rounding_laws.proofs.Multiples.{value_units}
use Rattle.rounding.specs.Leaves.{negative}
use Rattle.rounding.specs.Whole.{is_negative}
use Rattle.rounding_laws.proofs.Whole.{whole_value}
use Rattle.rounding_laws.proofs.Integers.{parts_signed, parts_lt}
use Rattle.rounding_laws.proofs.Value.{shape, add_at, lt_at, div_at}

-- x is a number of the format f, of u units and of the sign s
pub record Worth (f : Format) (x : Float) (s : Bool) (u : ℕ) : Type 0 where
  pub fit : T (fits f x)
  pub value : HasValue x s u (2 ^ low f)

down_low : (f : Format) (s : Bool) (m : ℕ) (e : ℤ) → T (fits f (fin s (suc m) e)) → down e ≤ 2 ^ low f
unfolding fits
down_low f s m e t =
    let a = eqb (suc m % 2) 1 && ltb (suc m) (2 ^ prec f) in
    let b = leb (down e) (2 ^ low f) in
    leb→le (down e) (2 ^ low f) (and_r a b (and_l (a && b) (ltb (suc m * up e) (2 ^ suc (emax f) * down e)) t))

-- m * 2 ^ e is m * 2 ^ j units
in_low : (f : Format) (s : Bool) (m : ℕ) (e : ℤ) → T (fits f (fin s m e)) → (j : ℕ)
    × (m * up e * 2 ^ low f ≡ m * 2 ^ j * down e)
in_low f s zero e t = (0, simp zero-mul)
in_low f s (suc m) (pos k) t = (k + low f, rw (pow-add, mul-one, mul_assoc))
in_low f s (suc m) (negsuc k) t =
    let h : suc k ≤ low f = pow_le_back (suc k) (low f) (down_low f s m (negsuc k) t) in
    let e : 2 ^ low f ≡ 2 ^ (low f - suc k) * 2 ^ suc k = ap (λ (z : ℕ). 2 ^ z) (sym (sub-add_cancel h))
    ∙ pow-add 2 (low f - suc k) (suc k) in
    (low f - suc k, rw (mul-one, e) (sym (mul_assoc (suc m) (2 ^ (low f - suc k)) (2 ^ suc k))))

-- so no fraction of a unit is left
whole_units : (f : Format) (s : Bool) (m : ℕ) (e : ℤ) → T (fits f (fin s m e)) → m * up e * 2 ^ low f
    ≡ m * up e * 2 ^ low f / down e * down e
whole_units f s m e t = let (j, p) = in_low f s m e t in rw (p, mul-div_cancel (m * 2 ^ j) (down_pos e))

pub abs_signed : (s : Bool) (u : ℕ) → nat_abs (signed s u) ≡ u
abs_signed true zero = refl
abs_signed true (suc u) = refl
abs_signed false u = refl

pub abs_units : (f : Format) (x : Float) → nat_abs (signed_units f x) ≡ in_units f x
unfolding signed_units
abs_units f x = abs_signed (negative x) (in_units f x)

pub worth : {f : Format} (x : Float) → Number f x → Worth f x (negative x) (in_units f x)
unfolding negative
worth nan n = absurd n.ends
worth (inf s) n = absurd n.ends
worth {f} (fin s m e) n = record { fit = n.fit; value = (refl, whole_units f s m e n.fit) }

module _ {f : Format} {x : Float} {s : Bool} {u : ℕ} (w : Worth f x s u) where
  pub worth_number : Number f x
  worth_number = let (m, e, p, v) = shape x s u (2 ^ low f) w.value in record { fit = w.fit; ends = rw p tt }

  pub worth_negative : negative x ≡ s
  unfolding negative
  worth_negative = let (m, e, p, v) = shape x s u (2 ^ low f) w.value in rw p

  pub worth_units : signed_units f x ≡ signed s u
  unfolding signed_units
  worth_units = rw (worth_negative, value_units f x s u w.value)

-- a whole number
pub worth_whole : (f : Format) (z : ℤ) → nat_abs z ≤ 2 ^ prec f
    → Worth f (of_int f z) (is_negative z) (nat_abs z * 2 ^ low f)
worth_whole f z h =
    let (m, e, p, v) = shape (of_int f z) (is_negative z) (nat_abs z) 1 (whole_value f z h) in
    record { fit = of_int-fits f z; value = rw p (refl, omega (arith, ap (λ (k : ℕ). k * 2 ^ low f) v)) }

-- a fraction rounded is `grid` units, if that is in range
pub round_worth : (f : Format) (s : Bool) (a c : ℕ) → grid f a c < overflow f → Worth f (round f s a c) s (grid f a c)
round_worth f s a c h = record {
  fit = round-fits f s a c;
  value = rw (round_is f s a c) (units_val f s (kept (prec f) (a * 2 ^ low f) c) (drop (prec f) (a * 2 ^ low f) c) h);
}

-- ---- order

below_is : (s : Bool) (a : ℕ) (t : Bool) (b : ℕ) → is_below s a t b ≡ lt_z (signed s a) (signed t b)
below_is s a t b =
    rw (
      parts_lt (signed s a) (signed t b),
      (parts_signed s a).0,
      (parts_signed s a).1,
      (parts_signed t b).0,
      (parts_signed t b).1,
    ) (go s t)
  where
    go : (s t : Bool) → is_below s a t b ≡ ltb (cond s 0 a + cond t b 0) (cond t 0 b + cond s a 0)
    go false false = simp add-zero
    go false true = sym (le-ltb (a + b) (0 + 0) zero-le)
    go true false = rw (add_comm a b)
    go true true = simp zero-add

module _ {f : Format} {x y : Float} {s t : Bool} {a b : ℕ} (v : Worth f x s a) (w : Worth f y t b) where
  pub worth_add : add f x y ≡ sum f s a t b (2 ^ low f)
  worth_add = add_at x y s a t b (2 ^ low f) (pow_pos (low f)) v.value w.value f

  pub worth_lt : lt x y ≡ lt_z (signed s a) (signed t b)
  worth_lt = lt_at x y s a t b (2 ^ low f) (pow_pos (low f)) v.value w.value ∙ below_is s a t b

pub unlike_plus : (s : Bool) → unlike s false ≡ s
unlike_plus true = refl
unlike_plus false = refl

-- divided by a whole number
pub worth_div : {f : Format} {x : Float} {s : Bool} {a : ℕ} → Worth f x s a → (n : ℕ) → 0 < n → n ≤ 2 ^ prec f
    → div f x (of_int f (pos n)) ≡ round f s a (n * 2 ^ low f)
worth_div {f} {x} {s} {a} v n N h =
    div_at x (of_int f (pos n)) s a (2 ^ low f) false n 1 (pow_pos (low f)) (zero-lt-suc 0) N v.value
    (whole_value f (pos n) h) f
    ∙ rw (unlike_plus s, mul-one)

both_zero : (a c u d : ℕ) → 0 < c → 0 < d → a * c ≡ u * d → eqb a 0 ≡ eqb u 0
both_zero zero c zero d C D e = refl
both_zero zero c (suc u) d C D e = absurd (lt_irrefl 0 (rw (← zero-mul c, e) (mul-pos (zero-lt-suc u) D)))
both_zero (suc a) c zero d C D e = absurd (lt_irrefl 0 (rw (← zero-mul d, ← e) (mul-pos (zero-lt-suc a) C)))
both_zero (suc a) c (suc u) d C D e = eqb-suc-zero a ∙ sym (eqb-suc-zero u)

level_zero : (s : Bool) (a d : ℕ) → level s a false (0 * d) ≡ eqb a 0
level_zero s a d = rw zero-mul (go s (eqb a 0))
  where
    go : (s z : Bool) → z && (beq s false || z) ≡ z
    go true true = refl
    go true false = refl
    go false true = refl
    go false false = refl

-- compared with 0.0
pub worth_zero : {f : Format} {x : Float} {s : Bool} {u : ℕ} → Worth f x s u → eq x (fin false 0 (pos 0)) ≡ eqb u 0
unfolding eq
worth_zero {f} {x} {s} {u} w = let (m, e, p, v) = shape x s u (2 ^ low f) w.value in
    rw p (level_zero s (m * up e * 1) (down e)
    ∙ rw mul-one (both_zero (m * up e) (2 ^ low f) u (down e) (pow_pos (low f)) (down_pos e) v))
