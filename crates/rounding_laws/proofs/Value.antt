-- The operations by value: what they give for numbers of which only the sign and the size, a fraction, are known.
-- After this nobody looks at how a float is written. Assumes nothing.
use mathlib.Core.Path.{◌≡◌, refl, sym, ap, ◌∙◌}
use mathlib.Core.Bool.{Bool, true, false, not, ◌&&◌}
use Prim.Native.Nat.{ℕ, ◌+◌, ◌-◌, ◌*◌, ◌<◌}
use native.Mathlib.Nat.{
  mul_assoc,
  mul_comm,
  mul_left_comm,
  mul_right_comm,
  mul-sub,
  mul-pos,
  mul-lt-mul_of_pos_right,
  lt_of_mul-lt-mul_right,
}
use native.Mathlib.Omega.{arith}
use borrow.Author.Tests.{ne_eqb}
use lib.Dec.{ltb}
use lib.Ieee.{
  Float,
  nan,
  inf,
  fin,
  Format,
  up,
  down,
  unlike,
  round,
  neg,
  sum,
  add,
  sub,
  mul,
  div,
  lt,
  is_nan,
  below as is_below,
}
use lib.IntN.{ℤ}
use lib.Ieee.Fits.{down_pos}
use lib.Ieee.Exact.{HasValue}
use lib.Ieee.Scale.{round_same}
use lib.Ieee.Positive.{first_pos}
use Rattle.rounding_laws.proofs.Integers.{ltb_same}

-- A / C = a / c and B / C = b / c, multiplied out
module _ (A B C a b c : ℕ) (p : A * c ≡ a * C) (q : B * c ≡ b * C) where
  cross_lt : 0 < c → A < B → a < b
  cross_lt h l = lt_of_mul-lt-mul_right C (rw (← p, ← q) (mul-lt-mul_of_pos_right l h))

  cross_add : (A + B) * c ≡ (a + b) * C
  cross_add = omega arith

  cross_sub : (A - B) * c ≡ (a - b) * C
  cross_sub = mul_comm (A - B) c ∙ mul-sub c A B
      ∙ rw (mul_comm c A, mul_comm c B, p, q, mul_comm a C, mul_comm b C) (sym (mul-sub C a b)) ∙ mul_comm C (a - b)

-- equal fractions have equal sums
sum_same : (f : Format) (s : Bool) (A : ℕ) (t : Bool) (B C a b c : ℕ) → 0 < C → 0 < c → A * c ≡ a * C → B * c ≡ b * C
    → sum f s A t B C ≡ sum f s a t b c
unfolding sum
sum_same f s A t B C a b c P p e g =
    rw (
      ltb_same A B a b (cross_lt A B C a b c e g p) (cross_lt a b c A B C (sym e) (sym g) P),
      ltb_same B A b a (cross_lt B A C b a c g e p) (cross_lt b a c B A C (sym g) (sym e) P),
      round_same f s (A + B) C (a + b) c P p (cross_add A B C a b c e g),
      round_same f t (B - A) C (b - a) c P p (cross_sub B A C b a c g e),
      round_same f (s && ltb b a) (A - B) C (a - b) c P p (cross_sub A B C a b c e g),
    )

below_same : (s : Bool) (A : ℕ) (t : Bool) (B C a b c : ℕ) → 0 < C → 0 < c → A * c ≡ a * C → B * c ≡ b * C
    → is_below s A t B ≡ is_below s a t b
below_same false A false B C a b c P p e g = ltb_same A B a b (cross_lt A B C a b c e g p)
    (cross_lt a b c A B C (sym e) (sym g) P)
below_same false A true B C a b c P p e g = refl
below_same true A false B C a b c P p e g =
    let h : 0 * c ≡ 0 * C = omega arith in
    let k = cross_add A B C a b c e g in
    ltb_same 0 (A + B) 0 (a + b) (cross_lt 0 (A + B) C 0 (a + b) c h k p)
    (cross_lt 0 (a + b) c 0 (A + B) C (sym h) (sym k) P)
below_same true A true B C a b c P p e g = ltb_same B A b a (cross_lt B A C b a c g e p)
    (cross_lt b a c B A C (sym g) (sym e) P)

-- a number with a value is written in some way
pub shape : (x : Float) (s : Bool) (a c : ℕ) → HasValue x s a c → (m : ℕ) × (e : ℤ) × (x ≡ fin s m e)
    × (m * up e * c ≡ a * down e)
shape nan s a c v = absurd v
shape (inf t) s a c v = absurd v
shape (fin t m e) s a c (p, v) = (m, e, ap (λ (r : Bool). fin r m e) p, v)

-- and is a number
pub value_number : (x : Float) (s : Bool) (a c : ℕ) → HasValue x s a c → is_nan x ≡ false
unfolding is_nan
value_number x s a c v = let (m, e, p, w) = shape x s a c v in ap is_nan p

-- a fraction brought to a denominator that is a multiple of its own
wider : (m a c e d : ℕ) → m * c ≡ a * e → m * d * c ≡ a * (e * d)
wider m a c e d v = mul_right_comm m d c ∙ ap (λ (z : ℕ). z * d) v ∙ mul_assoc a e d

wider' : (n b c e d : ℕ) → n * c ≡ b * d → n * e * c ≡ b * (e * d)
wider' n b c e d w = mul_right_comm n e c ∙ ap (λ (z : ℕ). z * e) w ∙ mul_assoc b d e
    ∙ ap (λ (z : ℕ). b * z) (mul_comm d e)

module _ (x y : Float) (s : Bool) (a : ℕ) (t : Bool) (b c : ℕ) (C : 0 < c) (v : HasValue x s a c)
    (w : HasValue y t b c) where
  pub add_at : (f : Format) → add f x y ≡ sum f s a t b c
  unfolding add
  add_at f =
      let (m, e, p, v') = shape x s a c v in
      let (n, d, q, w') = shape y t b c w in
      rw (p, q)
      (sum_same f s (m * up e * down d) t (n * up d * down e) (down e * down d) a b c
      (mul-pos (down_pos e) (down_pos d)) C
      (wider (m * up e) a c (down e) (down d) v') (wider' (n * up d) b c (down e) (down d) w'))

  pub lt_at : lt x y ≡ is_below s a t b
  unfolding lt
  lt_at =
      let (m, e, p, v') = shape x s a c v in
      let (n, d, q, w') = shape y t b c w in
      rw (p, q)
      (below_same s (m * up e * down d) t (n * up d * down e) (down e * down d) a b c
      (mul-pos (down_pos e) (down_pos d)) C
      (wider (m * up e) a c (down e) (down d) v') (wider' (n * up d) b c (down e) (down d) w'))

neg_value : (y : Float) (t : Bool) (b c : ℕ) → HasValue y t b c → HasValue (neg y) (not t) b c
unfolding neg
neg_value y t b c w = let (n, d, q, w') = shape y t b c w in rw q (refl, w')

pub sub_at : (x y : Float) (s : Bool) (a : ℕ) (t : Bool) (b c : ℕ) → 0 < c → HasValue x s a c → HasValue y t b c
    → (f : Format) → sub f x y ≡ sum f s a (not t) b c
unfolding sub
sub_at x y s a t b c C v w = add_at x (neg y) s a (not t) b c C v (neg_value y t b c w)

cross_mul : (M E a c N G b d : ℕ) → M * c ≡ a * E → N * d ≡ b * G → M * N * (c * d) ≡ a * b * (E * G)
cross_mul M E a c N G b d p q =
    let l : M * N * (c * d) ≡ M * c * (N * d) = simp (mul_assoc, mul_left_comm) in
    let r : a * E * (b * G) ≡ a * b * (E * G) = simp (mul_assoc, mul_comm, mul_left_comm) in
    l ∙ rw (p, q) r

pub mul_at : (x y : Float) (s : Bool) (a c : ℕ) (t : Bool) (b d : ℕ) → 0 < c → 0 < d → HasValue x s a c
    → HasValue y t b d
    → (f : Format) → mul f x y ≡ round f (unlike s t) (a * b) (c * d)
unfolding mul
mul_at x y s a c t b d C D v w f =
    let (m, e, p, v') = shape x s a c v in
    let (n, g, q, w') = shape y t b d w in
    rw (p, q)
    (round_same f (unlike s t) (m * up e * (n * up g)) (down e * down g) (a * b) (c * d)
    (mul-pos (down_pos e) (down_pos g)) (mul-pos C D)
    (cross_mul (m * up e) (down e) a c (n * up g) (down g) b d v' w'))

cross_div : (M E a c N G b d : ℕ) → M * c ≡ a * E → N * d ≡ b * G → M * G * (b * c) ≡ a * d * (N * E)
cross_div M E a c N G b d p q =
    let l : M * G * (b * c) ≡ M * c * (b * G) = simp (mul_assoc, mul_comm, mul_left_comm) in
    let r : a * E * (N * d) ≡ a * d * (N * E) = simp (mul_assoc, mul_comm, mul_left_comm) in
    l ∙ rw (p, ← q) r

pub not_zero : (n : ℕ) → 0 < n → n ≡ 0 → ⊥
not_zero n h e = omega arith

pub div_at : (x y : Float) (s : Bool) (a c : ℕ) (t : Bool) (b d : ℕ) → 0 < c → 0 < d → 0 < b → HasValue x s a c
    → HasValue y t b d
    → (f : Format) → div f x y ≡ round f (unlike s t) (a * d) (b * c)
unfolding div
div_at x y s a c t b d C D B v w f =
    let (m, e, p, v') = shape x s a c v in
    let (n, g, q, w') = shape y t b d w in
    let some : 0 < n * up g = first_pos (n * up g) d (rw w' (mul-pos B (down_pos g))) in
    rw (p, q, ne_eqb n 0 (not_zero n (first_pos n (up g) some)))
    (round_same f (unlike s t) (m * up e * down g) (n * up g * down e) (a * d) (b * c) (mul-pos some (down_pos e))
    (mul-pos B C)
    (cross_div (m * up e) (down e) a c (n * up g) (down g) b d v' w'))
