-- Magnitudes stay within whole bounds, which rounding does not cross. Assumes nothing.
use mathlib.Core.Path.{◌≡◌, refl, sym}
use mathlib.Core.Bool.{Bool, true, false, not, ◌&&◌, ◌||◌, beq, cond}
use Prim.Native.Nat.{ℕ, ◌+◌, ◌-◌, ◌*◌, ◌^◌, ◌<◌, ◌≤◌}
use native.Mathlib.Nat.{mul-one, mul-pos, mul-le-mul_right, le_of_mul-le-mul_right, zero-lt-suc}
use native.Mathlib.Omega.{arith}
use lib.Dec.{T, ltb, eqb, ltb→lt, eqb→eq}
use lib.IntN.{ℤ, pos}
use lib.Pow.{pow_pos}
use lib.Ieee.{
  Float,
  fin,
  Format,
  binary64,
  prec,
  low,
  up,
  down,
  unlike,
  round,
  neg,
  sum,
  add,
  sub,
  lt,
  eq,
  le,
  of_int,
  div,
  is_nan,
}
use lib.Ieee.Back.{round_whole}
use lib.Ieee.Exact.{HasValue}
use lib.Ieee.Fits.{down_pos}
use lib.Ieee.Order.{transfer, round_mono}
use lib.Ieee.Scale.{grid, overflow, round_val}
use Rattle.rounding_laws.proofs.Error.{bounded_in_range}
use Rattle.rounding_laws.proofs.Units.{round_worth}
use Rattle.rounding_laws.proofs.Value.{shape, div_at}

-- x is finite, and its magnitude is at most b
pub record AtMost (b : ℕ) (x : Float) : Type 0 where
  pub sign : Bool
  pub digits : ℕ
  pub place : ℤ
  pub is : x ≡ fin sign digits place
  pub size : digits * up place ≤ b * down place

-- ---- rounding

not_more : (a b : ℕ) (v : Bool) → (T v → a ≡ b) → T (ltb a b || (v && true)) → a ≤ b
not_more a b v = go (ltb a b) v (ltb→lt a b)
  where
    go : (t v : Bool) → (T t → a < b) → (T v → a ≡ b) → T (t || (v && true)) → a ≤ b
    go true v p q e = let l = p tt in omega arith
    go false true p q e = let l = q tt in omega arith
    go false false p q e = absurd e

-- the order of two floats of one sign is that of their magnitudes
pub le_plus : (m : ℕ) (e : ℤ) (n : ℕ) (d : ℤ) → T (le (fin false m e) (fin false n d))
    → m * up e * down d ≤ n * up d * down e
unfolding le lt eq
le_plus m e n d l =
    let a = m * up e * down d in
    let b = n * up d * down e in
    not_more a b (eqb a b) (eqb→eq a b) l

pub le_minus : (m : ℕ) (e : ℤ) (n : ℕ) (d : ℤ) → T (le (fin true n d) (fin true m e))
    → m * up e * down d ≤ n * up d * down e
unfolding le lt eq
le_minus m e n d l =
    let a = m * up e * down d in
    let b = n * up d * down e in
    not_more a b (eqb b a) (λ t. sym (eqb→eq b a t)) l

-- the order of two numbers without a sign is that of their values
pub values : (x y : Float) (a c b d : ℕ) → HasValue x false a c → HasValue y false b d → T (le x y) → a * d ≤ b * c
values x y a c b d v w l =
    let (m, e, p, v') = shape x false a c v in
    let (n, g, q, w') = shape y false b d w in
    transfer a b c d (m * up e) (n * up g) (down e) (down g) (down_pos e) (down_pos g) (sym v') (sym w')
    (le_plus m e n g (rw (p, q) at l))

-- a fraction of at most b is rounded to at most b
module _ (f : Format) (s : Bool) (a c b : ℕ) (C : 0 < c) (B : b ≤ 2 ^ prec f) (h : a ≤ b * c) where
  in_range : grid f a c < overflow f
  in_range = bounded_in_range f a c b C B h

  few : grid f a c ≤ b * 2 ^ low f
  few =
      rw mul-one at
      (values (round f false a c) (round f false b 1) (grid f a c) (2 ^ low f) b 1 (round_val f a c in_range)
      (round_whole f false b B)
      (round_mono f a c b 1 C (zero-lt-suc 0) (rw mul-one h)))

  round_at_most : AtMost b (round f s a c)
  round_at_most =
      let (m, e, p, v) = shape (round f s a c) s (grid f a c) (2 ^ low f) (round_worth f s a c in_range).value in
      let l = mul-le-mul_right (down e) few in
      record {
        sign = s;
        digits = m;
        place = e;
        is = p;
        size = le_of_mul-le-mul_right {k = 2 ^ low f} (omega arith)
            (pow_pos (low f));
      }

-- ---- the operations

pub either : {b : ℕ} {x y : Float} (t : Bool) → AtMost b x → AtMost b y → AtMost b (cond t x y)
either true p q = p
either false p q = q

pub zero_at_most : (b : ℕ) (s : Bool) → AtMost b (fin s 0 (pos 0))
zero_at_most b s = record { sign = s; digits = 0; place = pos 0; is = refl; size = omega arith }

sum_at_most : (f : Format) (s : Bool) (a : ℕ) (t : Bool) (d c b : ℕ) → 0 < c → b ≤ 2 ^ prec f → a + d ≤ b * c
    → AtMost b (sum f s a t d c)
unfolding sum
sum_at_most f s a t d c b C B h =
    either (beq s t) (round_at_most f s (a + d) c b C B h)
    (either (ltb a d) (round_at_most f t (d - a) c b C B (omega arith))
    (round_at_most f (s && ltb d a) (a - d) c b C B (omega arith)))

module _ {x : Float} {a b : ℕ} (p : AtMost a x) where
  pub add_at_most : {y : Float} {c : ℕ} → AtMost c y → (a + c ≤ b) × (b ≤ 2 ^ 53) → AtMost b (add binary64 x y)
  unfolding add
  add_at_most {c = c} q (h, B) =
      let e = p.place in
      let d = q.place in
      let l = mul-le-mul_right (down d) p.size in
      let r = mul-le-mul_right (down e) q.size in
      let m = mul-le-mul_right (down e * down d) h in
      rw (p.is, q.is)
      (sum_at_most binary64 p.sign (p.digits * up e * down d) q.sign (q.digits * up d * down e)
      (down e * down d) b (mul-pos (down_pos e) (down_pos d)) B (omega arith))

  pub div_at_most : (n : ℕ) → (a ≤ n * b) × (0 < n) × (n ≤ 2 ^ 12) × (b ≤ 2 ^ 53)
      → AtMost b (div binary64 x (of_int binary64 (pos n)))
  unfolding of_int
  div_at_most n (h, N, M, B) =
      let e = p.place in
      let l = p.size in
      let r = mul-le-mul_right (down e) h in
      rw (div_at x (round binary64 false n 1) p.sign (p.digits * up e) (down e) false n 1 (down_pos e)
      (zero-lt-suc 0) N (rw p.is (refl, refl)) (round_whole binary64 false n (omega arith)) binary64)
      (round_at_most binary64 (unlike p.sign false) (p.digits * up e * 1) (n * down e) b (mul-pos N (down_pos e))
      B (omega arith))

neg_at_most : {b : ℕ} {x : Float} → AtMost b x → AtMost b (neg x)
unfolding neg
neg_at_most p = record { sign = not p.sign; digits = p.digits; place = p.place; is = rw p.is; size = p.size }

pub sub_at_most : {x y : Float} {a b c : ℕ} → AtMost a x → AtMost c y → (a + c ≤ b) × (b ≤ 2 ^ 53)
    → AtMost b (sub binary64 x y)
unfolding sub
sub_at_most p q h = add_at_most p (neg_at_most q) h

-- so it is no NaN
pub at_most_number : {b : ℕ} {x : Float} → AtMost b x → is_nan x ≡ false
unfolding is_nan
at_most_number p = rw p.is
