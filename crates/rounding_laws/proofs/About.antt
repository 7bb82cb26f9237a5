-- A number that stands for a fraction, and how far it is from it. Each operation adds what its rounding may be off
-- by, so the error of a sum or of a mean is read off the operations; and numbers that stand for different fractions
-- are in the fractions' order where their errors are too small to reach. Assumes nothing.
use mathlib.Core.Path.{◌≡◌, refl, sym, ap, ◌∙◌}
use mathlib.Core.Logic.{◌⊎◌, inl, inr}
use mathlib.Core.Bool.{Bool, true, false, not, true≢false, cond}
use Prim.Native.Nat.{ℕ, zero, suc, ◌+◌, ◌-◌, ◌*◌, ◌/◌, ◌^◌, ◌<◌, ◌≤◌, zero-le}
use native.Mathlib.Nat.{
  le_refl,
  le_trans,
  zero-mul,
  mul-le-mul_right,
  mul-pos,
  le_of_mul-le-mul_right,
  lt_of_mul-lt-mul_right,
  mul-lt-mul_of_pos_right,
}
use native.Mathlib.Omega.{arith}
use borrow.Author.Tests.{lt-ltb, ne_eqb}
use lib.Dec.{T, ltb, ltb→lt, nltb→le, lit≤}
use lib.IntN.{ℤ, pos, negsuc, neg_ℤ, nat_abs, ◌+ℤ◌, ◌-ℤ◌, ◌*ℤ◌, neg_ℤ-+ℤ, +ℤ_comm}
use lib.Signed.{lt_z}
use lib.Pow.{pow_pos, pow-add}
use lib.Ieee.{Float, fin, Format, binary32, binary64, prec, emax, low, round, sum, add, sub, div, lt, eq, of_int, fits}
use lib.Ieee.Positive.{first_pos}
use Rattle.rounding_laws.proofs.Value.{not_zero, sub_at}
use Rattle.rounding.specs.Leaves.{plus_one, minus_one, negative, sign_of}
use Rattle.rounding.proofs.Signs.{sign_difference}
use Rattle.rounding.specs.Nearest.{in_units, signed, signed_units, Number, distance}
use Rattle.rounding_laws.proofs.Integers.{
  above,
  below,
  Near,
  parts_add,
  parts_times,
  parts_signed,
  parts_same,
  parts_lt,
  parts_less,
  less_parts,
  one_of_three,
  not_less,
  near_abs,
  abs_near,
  abs_add,
}
use Rattle.rounding.specs.Whole.{is_negative}
use Rattle.rounding_laws.proofs.Whole.{sum_turned}
use Rattle.rounding_laws.proofs.Units.{
  Worth,
  worth,
  worth_number,
  worth_units,
  abs_signed,
  abs_units,
  worth_whole,
  worth_add,
  worth_div,
  worth_lt,
  worth_zero,
  round_worth,
}
use Rattle.rounding_laws.proofs.Error.{grid_within, grid_range}

-- 2 ^ -prec, in units
abbrev pub fine : Format → ℕ
fine f = 2 ^ (low f - prec f)

-- x is a number of the format f, and it is z / c within e / c halves of 2 ^ -prec
pub record About (f : Format) (x : Float) (z : ℤ) (c e : ℕ) : Type 0 where
  pub number : Number f x
  pub close : distance f x z c * 2 ≤ e * fine f

pub about_weaken : {f : Format} {x : Float} {z : ℤ} {c d : ℕ} (e : ℕ) → About f x z c d → d ≤ e → About f x z c e
about_weaken {f} e a h = record { number = a.number; close = le_trans a.close (mul-le-mul_right (fine f) h) }

-- the same in natural numbers
abbrev Within : Format → ℤ → ℤ → ℕ → ℕ → Type 0
Within f v z c e = Near ((above v * c + below z * 2 ^ low f) * 2) ((above z * 2 ^ low f + below v * c) * 2) e

within : {f : Format} {x : Float} {z : ℤ} {c e : ℕ} → About f x z c e → Within f (signed_units f x) z c (e * fine f)
unfolding distance
within {f} {x} {z} {c} {e} a =
    let v = signed_units f x in
    let n = near_abs (v *ℤ pos c) (z *ℤ pos (2 ^ low f)) (le_refl _) in
    let p = parts_times v c in
    let q = parts_times z (2 ^ low f) in
    let h = a.close in
    omega arith

about : {f : Format} {x : Float} {z : ℤ} {c e : ℕ} → Number f x → Within f (signed_units f x) z c (e * fine f)
    → About f x z c e
unfolding distance
about {f} {x} {z} {c} {e} m n =
    let v = signed_units f x in
    let p = parts_times v c in
    let q = parts_times z (2 ^ low f) in
    let h = abs_near (v *ℤ pos c) (z *ℤ pos (2 ^ low f)) {e = e * fine f / 2} (omega arith) in
    record { number = m; close = omega arith }

-- ---- a fraction rounded

signed_within : (f : Format) (s : Bool) (g a c e : ℕ) → Near (g * c * 2) (a * 2 ^ low f * 2) e
    → Within f (signed s g) (signed s a) c e
signed_within f true g a c e n = rw (
  (parts_signed true g).0,
  (parts_signed true g).1,
  (parts_signed true a).0,
  (parts_signed true a).1,
) (omega arith)
signed_within f false g a c e n = omega arith

pub about_worth : {f : Format} {x : Float} {s : Bool} {g : ℕ} (a : ℕ) {c e : ℕ} → Worth f x s g
    → Near (g * c * 2) (a * 2 ^ low f * 2) (e * fine f)
    → About f x (signed s a) c e
about_worth {f} {x} {s} {g} a {c} {e} w n = about (worth_number w)
    (rw (worth_units w) (signed_within f s g a c (e * fine f) n))

-- a format reaches far below its last digit
wide : (f : Format) → prec f ≤ low f
wide binary32 = lit≤ tt
wide binary64 = lit≤ tt

fines : (f : Format) → 2 ^ low f ≡ 2 ^ prec f * fine f
fines binary32 = refl
fines binary64 = refl

fines_up : (f : Format) (i : ℕ) → 2 ^ (low f + i - prec f) ≡ 2 ^ i * fine f
fines_up f i =
    let l = wide f in
    let e : low f + i - prec f ≡ i + (low f - prec f) = omega arith in
    rw e (pow-add 2 i (low f - prec f))

-- below 2 ^ i
pub about_round : (f : Format) (s : Bool) (a c i : ℕ) → 0 < c → a < 2 ^ i * c → i ≤ emax f
    → About f (round f s a c) (signed s a) c (2 ^ i * c)
about_round f s a c i C h l =
    let j = low f + i in
    let k : a * 2 ^ low f < 2 ^ j * c = rw (pow-add 2 (low f) i)
    (omega (arith, mul-lt-mul_of_pos_right h (pow_pos (low f)))) in
    let n = grid_within f a c C j k in
    let e = ap (λ (z : ℕ). c * z) (fines_up f i) in
    about_worth a (round_worth f s a c (grid_range f a c C j k (omega arith))) (omega arith)

-- ---- the operations

-- the sizes are as near as the values
sizes : (f : Format) (v z : ℤ) (c e : ℕ) → Within f v z c e → Near (nat_abs v * c * 2) (nat_abs z * 2 ^ low f * 2) e
sizes f (pos v) (pos z) c e n = omega arith
sizes f (pos v) (negsuc z) c e n = omega arith
sizes f (negsuc v) (pos z) c e n = omega arith
sizes f (negsuc v) (negsuc z) c e n = omega arith

size_near : {f : Format} {x : Float} {z : ℤ} {c e : ℕ} → About f x z c e
    → Near (in_units f x * c * 2) (nat_abs z * 2 ^ low f * 2) (e * fine f)
size_near {f} {x} {z} {c} {e} a = rw abs_units at (sizes f (signed_units f x) z c (e * fine f) (within a))

-- how many units at most
size_of : {f : Format} {x : Float} {z : ℤ} {c e : ℕ} → About f x z c e
    → in_units f x * c * 2 ≤ (nat_abs z * 2 ^ prec f * 2 + e) * fine f
size_of {f} {x} {z} {c} {e} a = let l = rw (fines f) at (size_near a).above_by in omega arith

-- a sum is one fraction rounded, and so is a difference
pub record Rounds (f : Format) (x : Float) (z : ℤ) (c : ℕ) : Type 0 where
  pub sign : Bool
  pub count : ℕ
  pub is : x ≡ round f sign count c
  pub of : signed sign count ≡ z

apart : (f : Format) (a b c : ℕ) (t : Bool) → (T t → a < b) → (T (not t) → b ≤ a)
    → Rounds f (cond t (round f true (b - a) c) (round f false (a - b) c)) (pos a +ℤ neg_ℤ (pos b)) c
apart f a b c true h k =
    let l : a < b = h tt in
    let p = parts_signed true b in
    let q = parts_signed true (b - a) in
    record {
      sign = true;
      count = b - a;
      is = refl;
      of = parts_same (neg_ℤ (pos (b - a))) (pos a +ℤ neg_ℤ (pos b))
          (omega (arith, parts_add (pos a) (neg_ℤ (pos b))));
    }
apart f a b c false h k =
    let l : b ≤ a = k tt in
    let p = parts_signed true b in
    record {
      sign = false;
      count = a - b;
      is = refl;
      of = parts_same (pos (a - b)) (pos a +ℤ neg_ℤ (pos b))
          (omega (arith, parts_add (pos a) (neg_ℤ (pos b))));
    }

sum_rounds : (f : Format) (s : Bool) (a : ℕ) (t : Bool) (b c : ℕ)
    → Rounds f (sum f s a t b c) (signed s a +ℤ signed t b) c
unfolding sum
sum_rounds f false a false b c = record { sign = false; count = a + b; is = refl; of = refl }
sum_rounds f true a true b c = record { sign = true; count = a + b; is = refl; of = neg_ℤ-+ℤ (pos a) (pos b) }
sum_rounds f false a true b c = apart f a b c (ltb a b) (ltb→lt a b) (nltb→le a b)
sum_rounds f true a false b c =
    rw (sum_turned f a b c, +ℤ_comm (neg_ℤ (pos a)) (pos b)) (apart f b a c (ltb b a) (ltb→lt b a) (nltb→le b a))

pub signed_back : (f : Format) (x : Float) → signed (negative x) (in_units f x) ≡ signed_units f x
unfolding signed_units
signed_back f x = refl

pub add_rounds : {f : Format} {x y : Float} → Number f x → Number f y
    → Rounds f (add f x y) (signed_units f x +ℤ signed_units f y) (2 ^ low f)
add_rounds {f} {x} {y} n m =
    let r = sum_rounds f (negative x) (in_units f x) (negative y) (in_units f y) (2 ^ low f) in
    record {
      sign = r.sign;
      count = r.count;
      is = worth_add (worth x n) (worth y m) ∙ r.is;
      of = r.of
          ∙ rw (signed_back f x, signed_back f y);
    }

signed_not : (s : Bool) (a : ℕ) → signed (not s) a ≡ neg_ℤ (signed s a)
signed_not true zero = refl
signed_not true (suc a) = refl
signed_not false a = refl

pub sub_rounds : {f : Format} {x y : Float} → Number f x → Number f y
    → Rounds f (sub f x y) (signed_units f x -ℤ signed_units f y) (2 ^ low f)
sub_rounds {f} {x} {y} n m =
    let a = in_units f x in
    let b = in_units f y in
    let r = sum_rounds f (negative x) a (not (negative y)) b (2 ^ low f) in
    record {
      sign = r.sign;
      count = r.count;
      is = sub_at x y (negative x) a (negative y) b (2 ^ low f) (pow_pos (low f)) (worth x n).value
          (worth y m).value f
          ∙ r.is;
      of = r.of
          ∙ rw (signed_not (negative y) b, signed_back f x, signed_back f y);
    }

rounds_about : {f : Format} {x : Float} {z : ℤ} {c : ℕ} (i : ℕ) → Rounds f x z c → 0 < c → nat_abs z < 2 ^ i * c
    → i ≤ emax f → About f x z c (2 ^ i * c)
rounds_about {f} {x} {z} {c} i r C h l =
    rw (r.is, ← r.of) (about_round f r.sign r.count c i C (rw (← abs_signed r.sign r.count, r.of) h) l)

near_times : {a b e : ℕ} (c : ℕ) → Near a b e → Near (a * c) (b * c) (e * c)
near_times {a} {b} {e} c n = let p = mul-le-mul_right c n.above_by in let q = mul-le-mul_right c n.below_by in
    omega arith

pub near_over : {a b e : ℕ} (c : ℕ) → 0 < c → Near (a * c) (b * c) (e * c) → Near a b e
near_over {a} {b} {e} c C n = record {
  above_by = le_of_mul-le-mul_right {k = c} (omega arith) C;
  below_by = le_of_mul-le-mul_right {k = c} (omega arith) C;
}

-- the sum of two numbers that stand for fractions of the same denominator, and stay below 2 ^ i
pub about_add : {f : Format} {x y : Float} {z w : ℤ} {c d e : ℕ} (i : ℕ) → About f x z c d → About f y w c e
    → i ≤ emax f
    → (nat_abs z + nat_abs w) * 2 ^ prec f * 2 + d + e < 2 ^ i * c * 2 ^ prec f * 2
    → About f (add f x y) (z +ℤ w) c (d + e + 2 ^ i * c)
about_add {f} {x} {y} {z} {w} {c} {d} {e} i p q l h =
    let u = 2 ^ low f in
    let v = signed_units f x +ℤ signed_units f y in
    let k = mul-lt-mul_of_pos_right h (pow_pos (low f - prec f)) in
    let few : in_units f x + in_units f y < 2 ^ i * u = rw (fines f)
    (lt_of_mul-lt-mul_right (c * 2) (omega (arith, size_of p, size_of q))) in
    let r = rounds_about i (add_rounds p.number q.number) (pow_pos (low f))
    (omega (arith, abs_add (signed_units f x) (signed_units f y), abs_units f x, abs_units f y)) l in
    let t = signed_units f (add f x y) in
    let n : Near ((above t + below v) * 2) ((above v + below t) * 2) (2 ^ i * fine f) = near_over u (pow_pos (low f))
    (omega (arith, within r)) in
    let m = near_times c n in
    let a = ap (λ (k : ℕ). k * c) (parts_add (signed_units f x) (signed_units f y)) in
    let b = ap (λ (k : ℕ). k * u) (parts_add z w) in
    about r.number (omega (arith, within p, within q))

pub signed_int : (z : ℤ) → signed (is_negative z) (nat_abs z) ≡ z
signed_int (pos n) = refl
signed_int (negsuc n) = refl

-- a whole number stands for itself
pub about_whole : (f : Format) (z : ℤ) → nat_abs z ≤ 2 ^ prec f → About f (of_int f z) z 1 0
about_whole f z h =
    let a : About f (of_int f z) (signed (is_negative z) (nat_abs z)) 1 0 = about_worth (nat_abs z) (worth_whole f z h)
    (omega arith) in
    rw signed_int at a

-- and -0.0, with which a sum begins, for 0
pub about_minus_zero : (f : Format) (c : ℕ) → About f (fin true 0 (pos 0)) (pos 0) c 0
unfolding fits
about_minus_zero f c = about_worth {s = true} {g = 0} 0 (record { fit = tt; value = (refl, simp zero-mul) })
    (omega arith)

-- divided by a whole number, to less than 2 ^ i
pub about_div : {f : Format} {x : Float} {z : ℤ} {c e : ℕ} (i n : ℕ) → About f x z c e → 0 < n → n ≤ 2 ^ prec f
    → i ≤ emax f
    → nat_abs z * 2 ^ prec f * 2 + e < 2 ^ i * (c * n) * 2 ^ prec f * 2
    → About f (div f x (of_int f (pos n))) z (c * n) (e + 2 ^ i * (c * n))
about_div {f} {x} {z} {c} {e} i n p N k l h =
    let u = 2 ^ low f in
    let v = signed_units f x in
    let g = mul-lt-mul_of_pos_right h (pow_pos (low f - prec f)) in
    let few : in_units f x < 2 ^ i * (n * u) = rw (fines f)
    (lt_of_mul-lt-mul_right (c * 2) (omega (arith, size_of p))) in
    let r : About f (div f x (of_int f (pos n))) v (n * u) (2 ^ i * (n * u)) =
    rw (worth_div (worth x p.number) n N k)
    (rw (signed_back f x) at (about_round f (negative x) (in_units f x) (n * u) i (mul-pos N (pow_pos (low f))) few
    l)) in
    let t = signed_units f (div f x (of_int f (pos n))) in
    let q : Near ((above t * n + below v) * 2) ((above v + below t * n) * 2) (2 ^ i * n * fine f) = near_over u
    (pow_pos (low f)) (omega (arith, within r)) in
    let m = near_times c q in
    about r.number (omega (arith, within p))

-- ---- order

pub number_lt : {f : Format} {x y : Float} → Number f x → Number f y
    → lt x y ≡ lt_z (signed_units f x) (signed_units f y)
number_lt {f} {x} {y} n m = rw (← signed_back f x, ← signed_back f y) (worth_lt (worth x n) (worth y m))

-- a bound on a difference, times k
spread : (a b c v u x d g k : ℕ) → (a * c + v * u) * 2 ≤ (b * u + x * c) * 2 + d * g
    → a * c * k * 2 + v * u * k * 2 ≤ b * u * k * 2 + x * c * k * 2 + d * g * k
spread a b c v u x d g k h = omega (arith, mul-le-mul_right k h)

linear : (x⁺ x⁻ y⁺ y⁻ z⁺ z⁻ w⁺ w⁻ d e r : ℕ) → x⁺ * 2 + z⁻ * 2 ≤ z⁺ * 2 + x⁻ * 2 + d
    → w⁺ * 2 + y⁻ * 2 ≤ y⁺ * 2 + w⁻ * 2 + e
    → r + z⁺ + w⁻ ≤ w⁺ + z⁻ → d + e < r * 2 → x⁺ + y⁻ < y⁺ + x⁻
linear x⁺ x⁻ y⁺ y⁻ z⁺ z⁻ w⁺ w⁻ d e r h k o l = omega arith

-- z / c + r / (c b k) ≤ w / b, each number a part above zero less a part below; x and y stand for them; B is b k and
-- C is c k
reach : (x⁺ x⁻ y⁺ y⁻ z⁺ z⁻ w⁺ w⁻ c b d e p u g B C r : ℕ) → 0 < g → u ≡ p * g → c * B ≡ b * C
    → (x⁺ * c + z⁻ * u) * 2 ≤ (z⁺ * u + x⁻ * c) * 2 + d * g
    → (w⁺ * u + y⁻ * b) * 2 ≤ (y⁺ * b + w⁻ * u) * 2 + e * g
    → z⁺ * B + w⁻ * C + r ≤ w⁺ * C + z⁻ * B → d * B + e * C < p * 2 * r → x⁺ + y⁻ < y⁺ + x⁻
reach x⁺ x⁻ y⁺ y⁻ z⁺ z⁻ w⁺ w⁻ c b d e p u g B C r G eq same h m o l =
    let scaled : r * u ≡ r * (p * g) = ap (λ (v : ℕ). r * v) eq in
    let up : y⁺ * (c * B) ≡ y⁺ * (b * C) = ap (λ (v : ℕ). y⁺ * v) same in
    let down : y⁻ * (c * B) ≡ y⁻ * (b * C) = ap (λ (v : ℕ). y⁻ * v) same in
    let o' = mul-le-mul_right u o in
    let l' = mul-lt-mul_of_pos_right l G in
    let r' =
    linear (x⁺ * c * B) (x⁻ * c * B) (y⁺ * b * C) (y⁻ * b * C) (z⁺ * u * B) (z⁻ * u * B) (w⁺ * u * C) (w⁻ * u * C)
    (d * g * B) (e * g * C) (r * u)
    (spread x⁺ z⁺ c z⁻ u x⁻ d g B h) (spread w⁺ y⁺ u y⁻ b w⁻ e g C m) (omega arith) (omega arith) in
    lt_of_mul-lt-mul_right (c * B) (omega arith)

-- Numbers that stand for z / c < w / b are in that order, where their errors are too small to reach: z / c is below
-- w / b by r / (c b k) at least.
pub about_lt_by : {f : Format} {x y : Float} {z w : ℤ} {c b d e : ℕ} (k r : ℕ) → About f x z c d → About f y w b e
    → (above z * b + below w * c) * k + r ≤ (above w * c + below z * b) * k
    → (d * b + e * c) * k < 2 ^ prec f * 2 * r → lt x y ≡ true
about_lt_by {f} {x} {y} {z} {w} {c} {b} {d} {e} k r p q o h =
    let v = signed_units f x in
    let t = signed_units f y in
    let less = reach (above v) (below v) (above t) (below t) (above z) (below z) (above w) (below w) c b d e
    (2 ^ prec f) (2 ^ low f) (fine f) (b * k) (c * k) r
    (pow_pos (low f - prec f)) (fines f) (omega arith) (within p).above_by (within q).below_by (omega arith)
    (omega arith) in
    rw (number_lt p.number q.number, parts_lt v t) (lt-ltb (above v + below t) (above t + below v) less)

-- any distance between fractions of whole numbers will do where the errors are below 1 / (c b)
pub about_lt : {f : Format} {x y : Float} {z w : ℤ} {c b d e : ℕ} → About f x z c d → About f y w b e
    → lt_z (z *ℤ pos b) (w *ℤ pos c) ≡ true → d * b + e * c < 2 ^ prec f * 2 → lt x y ≡ true
about_lt {f} {x} {y} {z} {w} {c} {b} {d} {e} p q g h =
    let i = parts_times z b in
    let j = parts_times w c in
    about_lt_by 1 1 p q (omega (arith, parts_less (z *ℤ pos b) (w *ℤ pos c) g)) (omega arith)

-- so different fractions decide the order
pub about_order : {f : Format} {x y : Float} {z w : ℤ} {c b d e : ℕ} → About f x z c d → About f y w b e
    → ¬ (z *ℤ pos b ≡ w *ℤ pos c)
    → d * b + e * c < 2 ^ prec f * 2 → lt x y ≡ lt_z (z *ℤ pos b) (w *ℤ pos c)
about_order {f} {x} {y} {z} {w} {c} {b} p q k h = go (one_of_three (z *ℤ pos b) (w *ℤ pos c))
  where
    go : (lt_z (z *ℤ pos b) (w *ℤ pos c) ≡ true) ⊎ ((lt_z (w *ℤ pos c) (z *ℤ pos b) ≡ true) ⊎ (z *ℤ pos b ≡ w *ℤ pos c))
        → lt x y ≡ lt_z (z *ℤ pos b) (w *ℤ pos c)
    go (inl l) = about_lt p q l h ∙ sym l
    go (inr (inl g)) =
        number_lt p.number q.number
        ∙ not_less (signed_units f y) (signed_units f x)
        (sym (number_lt q.number p.number) ∙ about_lt q p g (omega arith))
        ∙ sym (not_less (w *ℤ pos c) (z *ℤ pos b) g)
    go (inr (inr e)) = absurd (k e)

pub zero_is : (f : Format) → of_int f (pos 0) ≡ fin false 0 (pos 0)
unfolding of_int
zero_is binary32 = refl
zero_is binary64 = refl

-- a number that stands for a negative fraction is below 0, so what has its fraction's sign is not -0.0
pub about_below : {f : Format} {x : Float} {z : ℤ} {c e : ℕ} → About f x z c e → negative x ≡ is_negative z
    → e < 2 ^ prec f * 2
    → negative x ≡ true → lt x (fin false 0 (pos 0)) ≡ true
about_below {f} {x} {z} {c} {e} a s h = go z a s
  where
    go : (z : ℤ) → About f x z c e → negative x ≡ is_negative z → negative x ≡ true → lt x (fin false 0 (pos 0)) ≡ true
    go (pos n) a s t = absurd (true≢false (sym t ∙ s))
    go (negsuc n) a s t =
        let p = parts_times (negsuc n) 1 in
        let q = parts_times (pos 0) c in
        let less = less_parts (negsuc n *ℤ pos 1) (pos 0 *ℤ pos c) (omega arith) in
        rw (← zero_is f) (about_lt a (about_whole f (pos 0) zero-le) less (omega arith))

-- the sign of a difference, where the first has its fraction's sign
pub about_sign : {x y : Float} {z w : ℤ} {c b d e : ℕ} → About binary64 x z c d → About binary64 y w b e → negative x
    ≡ is_negative z
    → d < 2 ^ 53 * 2 → sign_of (sub binary64 x y) ≡ cond (lt x y) minus_one plus_one
about_sign {x} {y} p q s h = sign_difference x y p.number.ends q.number.ends (about_below p s h)

-- and a number that stands for a fraction other than 0 is not 0
pub about_some : {f : Format} {x : Float} {z : ℤ} {c e : ℕ} → About f x z c e → 0 < nat_abs z → e < 2 ^ prec f * 2
    → eq x (fin false 0 (pos 0)) ≡ false
about_some {f} {x} {z} {c} {e} a h l =
    let k = mul-le-mul_right (2 ^ low f) h in
    let m = mul-lt-mul_of_pos_right l (pow_pos (low f - prec f)) in
    let u = fines f in
    let p : 0 < in_units f x = first_pos (in_units f x) (c * 2) (omega (arith, (size_near a).below_by)) in
    worth_zero (worth x a.number) ∙ ne_eqb (in_units f x) 0 (not_zero (in_units f x) p)
