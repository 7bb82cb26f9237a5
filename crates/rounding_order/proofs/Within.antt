-- Numbers within a bound that rounding does not cross: a fraction of at most p / q, where that is a number of its own,
-- is rounded to at most p / q. Assumes nothing.
use mathlib.Core.Path.{◌≡◌, refl, ap, ◌∙◌}
use mathlib.Core.Bool.{Bool, true, false, not}
use Prim.Native.Nat.{ℕ, ◌-◌, ◌*◌, ◌^◌, ◌<◌, ◌≤◌}
use native.Mathlib.Nat.{mul-one, mul-pos, mul_left_comm, mul-le-mul_left, mul-le-mul_right}
use native.Mathlib.Nat.{le-mul_of_pos_right, le_of_mul-le-mul_right, le_trans}
use native.Mathlib.Omega.{arith}
use borrow.Author.Tests.{le-ltb}
use lib.Dec.{lit≤, lit<}
use lib.Pow.{pow_pos}
use lib.Ieee.{Float, Format, binary64, prec, low, up, down, unlike, round, sum, sub, mul, le, is_nan}
use lib.Ieee.{below as is_below}
use lib.Ieee.Back.{round_whole}
use lib.Ieee.Exact.{HasValue}
use lib.Ieee.Fits.{down_pos}
use lib.Ieee.Order.{round_mono}
use lib.Ieee.Scale.{grid, overflow, round_val}
use Rattle.rounding_laws.proofs.Error.{bounded_in_range}
use Rattle.rounding_laws.proofs.Units.{round_worth}
use Rattle.rounding_laws.proofs.Bounds.{values, AtMost}
use Rattle.rounding_laws.proofs.Value.{shape, value_number, lt_at, sub_at, mul_at}
use Rattle.rounding.specs.Leaves.{one, plus_one, minus_one}
use Rattle.rounding_order.proofs.Compared.{le_is}

-- x is a number with the sign s, and its size is at most p / q
pub record Within (s : Bool) (p q : ℕ) (x : Float) : Type 0 where
  pub count : ℕ
  pub parts : ℕ
  pub some : 0 < parts
  pub value : HasValue x s count parts
  pub size : count * q ≤ p * parts

-- a fraction of at most p / q, which is a number of its own, is rounded to at most that
module _ (f : Format) (s : Bool) (a c p q : ℕ) (C : 0 < c) (Q : 0 < q) (P : p ≤ 2 ^ prec f)
    (v : HasValue (round f false p q) false p q) (h : a * q ≤ p * c) where
  in_range : grid f a c < overflow f
  in_range = bounded_in_range f a c p C P (le_trans (le-mul_of_pos_right a Q) h)

  round_within : Within s p q (round f s a c)
  round_within =
      let less = round_mono f a c p q C Q h in
      let is = round_val f a c in_range in
      record {
        count = grid f a c;
        parts = 2 ^ low f;
        some = pow_pos (low f);
        value = (round_worth f s a c in_range).value;
        size = values (round f false a c) (round f false p q) (grid f a c) (2 ^ low f) p q is v less;
      }

-- a bound that is a whole number, and one half
pub within_whole : (s : Bool) (a c p : ℕ) → 0 < c → p ≤ 2 ^ 53 → a ≤ p * c → Within s p 1 (round binary64 s a c)
within_whole s a c p C P h =
    let bound = round_whole binary64 false p (omega arith) in
    round_within binary64 s a c p 1 C (lit< tt) (omega arith) bound (rw mul-one h)

pub within_half : (s : Bool) (a c : ℕ) → 0 < c → a * 2 ≤ c → Within s 1 2 (round binary64 s a c)
unfolding round
within_half s a c C h = round_within binary64 s a c 1 2 C (lit< tt) (lit≤ tt) (refl, refl) (omega arith)

-- the same value in twice as many parts
pub doubled : (x : Float) (s : Bool) (a c : ℕ) → HasValue x s a c → HasValue x s (a * 2) (c * 2)
doubled x s a c v = let (m, e, p, w) = shape x s a c v in rw p (refl, omega (arith, w))

-- with either sign
pub record Signed (p q : ℕ) (x : Float) : Type 0 where
  pub sign : Bool
  pub within : Within sign p q x

-- times a whole number
pub times_within : {p q : ℕ} {x : Float} (y : Float) (k r : ℕ) → Signed p q x → HasValue y false k 1 → r ≤ 2 ^ 53
    → ((a c : ℕ) → a * q ≤ p * c → a * k ≤ r * (c * 1)) → Signed r 1 (mul binary64 x y)
times_within {x = x} y k r w v R h =
    let i = w.within in
    let a = i.count in
    let c = i.parts in
    rw (mul_at x y w.sign a c false k 1 i.some (lit< tt) i.value v binary64) record {
      sign = unlike w.sign false;
      within = within_whole _ (a * k) (c * 1) r (omega arith) R (h a c i.size);
    }

-- x is a number from -1 to 1
pub record FromMinusOneToOne (x : Float) : Type 0 where
  pub number : is_nan x ≡ false
  pub least : le minus_one x ≡ true
  pub most : le x plus_one ≡ true

one_number : (s : Bool) → is_nan (one s) ≡ false
unfolding is_nan
one_number s = refl

-- no number of size at most 1 is above 1 or below -1
not_beyond : (s : Bool) (a c : ℕ) → a ≤ c → (is_below false c s a ≡ false) × (is_below s a true c ≡ false)
not_beyond false a c h = (le-ltb c a h, refl)
not_beyond true a c h = (refl, le-ltb c a h)

pub in_unit : {s : Bool} {x : Float} → Within s 1 1 x → FromMinusOneToOne x
in_unit {s} {x} w =
    let a = w.count in
    let c = w.parts in
    let inside = not_beyond s a c (let l = w.size in omega arith) in
    let above = lt_at plus_one x false c s a c w.some (refl, omega arith) w.value ∙ inside.0 in
    let under = lt_at x minus_one s a true c c w.some w.value (refl, omega arith) ∙ inside.1 in
    let n = value_number x s a c w.value in
    record {
      number = n;
      least = le_is minus_one x (one_number true) n ∙ ap not under;
      most = le_is x plus_one n (one_number false) ∙ ap not above;
    }

-- ---- shares of a number

-- a number whose size is at most p
pub at_most : {s : Bool} {p : ℕ} {x : Float} → Within s p 1 x → AtMost p x
at_most {s} {p} {x} w =
    let (m, e, q, v) = shape x s w.count w.parts w.value in
    let l = mul-le-mul_right (down e) w.size in
    record {
      sign = s;
      digits = m;
      place = e;
      is = q;
      size = le_of_mul-le-mul_right {k = w.parts} (omega arith) w.some;
    }

module _ {a : Float} (w : Within false 1 1 a) where
  -- what is left of 1 beside a share of it
  pub rest_share : Within false 1 1 (sub binary64 plus_one a)
  unfolding sum
  rest_share =
      let c = w.parts in
      let l = w.size in
      rw (
        sub_at plus_one a false c false w.count c w.some (refl, omega arith) w.value binary64,
        le-ltb c w.count (omega arith),
      )
      (within_whole false (c - w.count) c 1 w.some (lit≤ tt) (omega arith))

  -- a share of a number is at most the number
  pub share_at_most : {b : ℕ} {x : Float} → AtMost b x → b ≤ 2 ^ 53 → AtMost b (mul binary64 a x)
  share_at_most {b} {x} p B =
      let e = p.place in
      let n = p.digits * up e in
      let few : w.count * n ≤ w.parts * n = mul-le-mul_right n (let l = w.size in omega arith) in
      let most : w.parts * n ≤ w.parts * (b * down e) = mul-le-mul_left w.parts p.size in
      let all : w.count * n ≤ b * (w.parts * down e) = rw (mul_left_comm b w.parts (down e)) (le_trans few most) in
      rw (mul_at a x false w.count w.parts p.sign n (down e) w.some (down_pos e) w.value
      (rw p.is (refl, refl)) binary64)
      (at_most (within_whole _ (w.count * n) (w.parts * down e) b (mul-pos w.some (down_pos e)) B all))
