-- A share of a number, rounded, and the sum of two shares that make up one: how far two such sums are apart whose
-- numbers are close. Assumes nothing.
use mathlib.Core.Path.{◌≡◌, refl}
use mathlib.Core.Bool.{Bool, true, false}
use Prim.Native.Nat.{ℕ, ◌+◌, ◌-◌, ◌*◌, ◌^◌, ◌<◌, ◌≤◌}
use native.Mathlib.Nat.{
  le_refl,
  le_trans,
  lt_of_le_of_lt,
  sub-le,
  mul-pos,
  mul-le-mul_left,
  mul-le-mul_right,
  le_of_mul-le-mul_right,
}
use native.Mathlib.Omega.{arith}
use lib.Dec.{lit≤, lit<}
use lib.IntN.{ℤ, pos, nat_abs, ◌+ℤ◌, ◌-ℤ◌}
use lib.Pow.{pow_pos}
use lib.Ieee.{Float, binary64, unlike, add, sub, mul, fits}
use lib.Ieee.Scale.{grid, overflow}
use Rattle.rounding.specs.Leaves.{negative, plus_one}
use Rattle.rounding.specs.Nearest.{signed, in_units, signed_units, Number}
use Rattle.rounding_laws.proofs.Integers.{
  above,
  below,
  Near,
  near_abs,
  parts_add,
  parts_minus,
  parts_same,
  parts_signed,
  abs_add,
  abs_gap,
}
use Rattle.rounding_laws.proofs.Value.{mul_at}
use Rattle.rounding_laws.proofs.Units.{Worth, worth, worth_number, worth_units, round_worth, abs_signed, abs_units}
use Rattle.rounding_laws.proofs.Error.{grid_range}
use Rattle.margins.proofs.Relative.{
  apart_near,
  size_by,
  rounds_off,
  add_rounds,
  sub_rounds,
  share_off,
  roof,
}

-- ---- one share

-- x is p units, at most one
pub record Share (x : Float) (p : ℕ) : Type 0 where
  pub worth : Worth binary64 x false p
  pub part : p ≤ 2 ^ 1074

-- t stands for v times p / q
pub record ShareOf (p q : ℕ) (v t : ℤ) : Type 0 where
  pub near : Near ((above t * q + below v * p) * 2 ^ 53) ((above v * p + below t * q) * 2 ^ 53)
      (p * nat_abs v + q * 2 ^ 52)
  pub size : nat_abs t * q * 2 ^ 53 ≤ p * nat_abs v * 2 ^ 53 + p * nat_abs v + q * 2 ^ 52

-- from the sizes
signed_share : (s : Bool) (p q a g : ℕ) → Near (g * q * 2 ^ 53) (p * a * 2 ^ 53) (p * a + q * 2 ^ 52)
    → ShareOf p q (signed s a) (signed s g)
signed_share true p q a g n =
    let v = parts_signed true a in
    let t = parts_signed true g in
    record {
      near = rw (v.0, v.1, t.0, t.1, abs_signed true a) (omega arith);
      size = rw (abs_signed true a, abs_signed true g) (omega arith);
    }
signed_share false p q a g n = record { near = omega arith; size = omega arith }

unlike_false : (s : Bool) → unlike false s ≡ s
unlike_false true = refl
unlike_false false = refl

few : (p a : ℕ) → p ≤ 2 ^ 1074 → a < roof → grid binary64 (p * a) (2 ^ 1074 * 2 ^ 1074) < overflow binary64
unfolding roof
few p a h l =
    grid_range binary64 (p * a) (2 ^ 1074 * 2 ^ 1074) (mul-pos (pow_pos 1074) (pow_pos 1074)) 2097
    (go p a (2 ^ 1074) (2 ^ 2097) (pow_pos 1074) h l) (lit≤ tt)
  where
    go : (p a q r : ℕ) → 0 < q → p ≤ q → a < r → p * a * q < r * (q * q)
    go p a q r Q h l =
        let i = mul-le-mul_right (a * q) h in
        let j = mul-le-mul_right (q * q) l in
        let k = mul-pos Q Q in
        omega arith

pub mul_share : {a x : Float} {p : ℕ} → Share a p → Number binary64 x → nat_abs (signed_units binary64 x) < roof
    → Number binary64 (mul binary64 a x)
    × ShareOf p (2 ^ 1074) (signed_units binary64 x) (signed_units binary64 (mul binary64 a x))
mul_share {a} {x} {p} h n l =
    let s = negative x in
    let c = in_units binary64 x in
    let own = worth x n in
    let is = mul_at a x false p (2 ^ 1074) s c (2 ^ 1074) (pow_pos 1074) (pow_pos 1074) h.worth.value own.value
    binary64 in
    let w = round_worth binary64 s (p * c) (2 ^ 1074 * 2 ^ 1074)
    (few p c h.part (rw (abs_units binary64 x) at l)) in
    rw (is, unlike_false s, worth_units own, worth_units w)
    (worth_number w, signed_share s p (2 ^ 1074) c _ (share_off binary64 (p * c) (2 ^ 1074) (pow_pos 1074)))

-- shares of numbers that are close, b units or less each
product_near : {p q b e : ℕ} (v t v' t' : ℤ) → ShareOf p q v t → ShareOf p q v' t' → nat_abs v ≤ b → nat_abs v' ≤ b
    → Near ((above v + below v') * 2 ^ 56) ((above v' + below v) * 2 ^ 56) e
    → Near ((above t + below t') * q * 2 ^ 56) ((above t' + below t) * q * 2 ^ 56) (p * e + 16 * (p * b) + q * 2 ^ 56)
product_near {p} v t v' t' s s' h h' n =
    let i = mul-le-mul_left p h in
    let j = mul-le-mul_left p h' in
    let over = mul-le-mul_left p n.above_by in
    let under = mul-le-mul_left p n.below_by in
    let a = s.near in
    let a' = s'.near in
    omega arith

-- ---- two shares that make up one

one_worth : Worth binary64 plus_one false (2 ^ 1074)
unfolding fits
one_worth = record { fit = tt; value = (refl, refl) }

one_number : Number binary64 plus_one
one_number = worth_number one_worth

one_units : signed_units binary64 plus_one ≡ pos (2 ^ 1074)
one_units = worth_units one_worth

-- p and r make up q, but for a rounding
pub record MakeUp (p r q : ℕ) : Type 0 where
  pub some : 0 < q
  pub both : (p + r) * 2 ^ 53 ≤ q * 2 ^ 53 + q

less : (q p : ℕ) → p ≤ q → pos q -ℤ pos p ≡ pos (q - p)
less q p h = parts_same (pos q -ℤ pos p) (pos (q - p)) (omega (arith, parts_minus (pos q) (pos p)))

low : (p : ℕ) → 2 ^ 1074 - p < roof
unfolding roof
low p = lt_of_le_of_lt (sub-le (2 ^ 1074) p) (lit< tt)

-- a share and what is left of one beside it
pub rest_of : {a : Float} {p r : ℕ} → Share a p → Share (sub binary64 plus_one a) r → MakeUp p r (2 ^ 1074)
rest_of {a} {p} {r} h k =
    let is : signed_units binary64 plus_one -ℤ signed_units binary64 a ≡ pos (2 ^ 1074 - p) =
    rw (one_units, worth_units h.worth) (less (2 ^ 1074) p h.part) in
    let o = rounds_off (sub_rounds one_number (worth_number h.worth)) (rw is (low p)) in
    let c = rw (is, worth_units k.worth) at o.close in
    record { some = pow_pos 1074; both = go p r (2 ^ 1074) h.part (apart_near (pos r) (pos (2 ^ 1074 - p)) c) }
  where
    go : (p r q : ℕ) → p ≤ q → Near ((r + 0) * 2 ^ 53) ((q - p + 0) * 2 ^ 53) (q - p)
        → (p + r) * 2 ^ 53 ≤ q * 2 ^ 53 + q
    go p r q h n = omega arith

two_sizes : (t u q x y : ℕ) → t * q * 2 ^ 53 ≤ x * 2 ^ 53 + x + q * 2 ^ 52
    → u * q * 2 ^ 53 ≤ y * 2 ^ 53 + y + q * 2 ^ 52
    → (t + u) * 2 ^ 53 * q ≤ (x + y) * 2 ^ 53 + (x + y) + q * 2 ^ 53
two_sizes t u q x y h k = omega arith

most_size : (p r q b x y : ℕ) → (p + r) * 2 ^ 53 ≤ q * 2 ^ 53 + q → x ≤ p * b → y ≤ r * b
    → (x + y) * 2 ^ 53 + (x + y) + q * 2 ^ 53 ≤ (b * (2 ^ 53 + 3) + 2 ^ 53) * q
most_size p r q b x y h i j =
    let both : (p + r) * b * 2 ^ 53 ≤ q * b * 2 ^ 53 + q * b = let k = mul-le-mul_right b h in omega arith in
    let twice = mul-le-mul_right b (at_most_twice p r q h) in
    le_trans (go (2 ^ 53) (x + y) ((p + r) * b) (q * b) (omega arith) both (omega arith)) (omega arith)
  where
    at_most_twice : (p r q : ℕ) → (p + r) * 2 ^ 53 ≤ q * 2 ^ 53 + q → p + r ≤ 2 * q
    at_most_twice p r q h = omega arith

    go : (k z d c : ℕ) → z ≤ d → d * k ≤ c * k + c → d ≤ 2 * c → z * k + z + q * k ≤ c * (k + 3) + q * k
    go k z d c h i j = let l = mul-le-mul_right k h in omega arith

module _ {p r q : ℕ} (make : MakeUp p r q) where
  -- the size of their sum
  shares_size : {b : ℕ} (v t w u : ℤ) → ShareOf p q v t → ShareOf r q w u → nat_abs v ≤ b → nat_abs w ≤ b
      → (nat_abs t + nat_abs u) * 2 ^ 53 ≤ b * (2 ^ 53 + 3) + 2 ^ 53
  shares_size {b} v t w u s z h k =
      le_of_mul-le-mul_right {k = q}
      (le_trans (two_sizes (nat_abs t) (nat_abs u) q (p * nat_abs v) (r * nat_abs w) s.size z.size)
      (most_size p r q b (p * nat_abs v) (r * nat_abs w) make.both (mul-le-mul_left p h) (mul-le-mul_left r k)))
      make.some

  -- and how far two such sums are apart
  shares_near : {b e : ℕ} (v t v' t' w u w' u' : ℤ)
      → ShareOf p q v t → ShareOf p q v' t' → ShareOf r q w u → ShareOf r q w' u'
      → nat_abs v ≤ b → nat_abs v' ≤ b → nat_abs w ≤ b → nat_abs w' ≤ b
      → Near ((above v + below v') * 2 ^ 56) ((above v' + below v) * 2 ^ 56) e
      → Near ((above w + below w') * 2 ^ 56) ((above w' + below w) * 2 ^ 56) e → e + 16 * b ≤ b * 2 ^ 53
      → Near ((above t + below t' + (above u + below u')) * 2 ^ 56)
      ((above t' + below t + (above u' + below u)) * 2 ^ 56) (e + 17 * b + 2 ^ 57)
  shares_near {b} {e} v t v' t' w u w' u' s s' z z' hv hv' hw hw' n m k =
      let x = product_near {b = b} v t v' t' s s' hv hv' n in
      let y = product_near {b = b} w u w' u' z z' hw hw' m in
      let both = mul-le-mul_right (e + 16 * b) make.both in
      let few = mul-le-mul_left q k in
      let l : (p + r) * (e + 16 * b) ≤ q * (e + 17 * b) =
      le_of_mul-le-mul_right {k = 2 ^ 53} (omega arith) (pow_pos 53) in
      record {
        above_by = le_of_mul-le-mul_right {k = q} (omega arith) make.some;
        below_by = le_of_mul-le-mul_right {k = q} (omega arith) make.some;
      }

-- ---- a blend

-- x and y are numbers of at most b units, and e parts of 2 ^ 56 of a unit apart at most
pub record Close (b e : ℕ) (x y : Float) : Type 0 where
  pub first : Number binary64 x
  pub second : Number binary64 y
  pub first_size : nat_abs (signed_units binary64 x) ≤ b
  pub second_size : nat_abs (signed_units binary64 y) ≤ b
  pub apart : nat_abs (signed_units binary64 x -ℤ signed_units binary64 y) * 2 ^ 56 ≤ e

-- a sum of two numbers and its rounding
rounded_size : (t u z : ℤ) (b k : ℕ) → nat_abs (z -ℤ (t +ℤ u)) * 2 ^ 53 ≤ nat_abs (t +ℤ u)
    → (nat_abs t + nat_abs u) * 2 ^ 53 ≤ b * (2 ^ 53 + 3) + 2 ^ 53 → b * 8 + 2 ^ 54 ≤ k * 2 ^ 53 → nat_abs z ≤ b + k
rounded_size t u z b k o s h =
    let sum = abs_add t u in
    let d = size_by z (t +ℤ u) {q = nat_abs (t +ℤ u) + nat_abs (z -ℤ (t +ℤ u))} (near_abs z (t +ℤ u) (le_refl _))
    (le_refl _) in
    le_of_mul-le-mul_right {k = 2 ^ 53}
    (go (2 ^ 53) (nat_abs t + nat_abs u) (nat_abs (z -ℤ (t +ℤ u))) (nat_abs z) s (omega arith) (omega arith)
    (few (nat_abs t + nat_abs u) s) h (pow_pos 53)) (pow_pos 53)
  where
    few : (s : ℕ) → s * 2 ^ 53 ≤ b * (2 ^ 53 + 3) + 2 ^ 53 → s ≤ 2 * b + 1
    few s h = omega arith

    go : (m s d z : ℕ) → s * m ≤ b * (m + 3) + m → d * m ≤ s → z ≤ s + d → s ≤ 2 * b + 1 → b * 8 + 2 * m ≤ k * m → 0 < m
        → z * m ≤ (b + k) * m
    go m s d z i j l f h g = let n = mul-le-mul_right m l in omega arith

rounded_near : (t u z t' u' z' : ℤ) (b e : ℕ) → nat_abs (z -ℤ (t +ℤ u)) * 2 ^ 53 ≤ nat_abs (t +ℤ u)
    → nat_abs (z' -ℤ (t' +ℤ u')) * 2 ^ 53 ≤ nat_abs (t' +ℤ u')
    → (nat_abs t + nat_abs u) * 2 ^ 53 ≤ b * (2 ^ 53 + 3) + 2 ^ 53
    → (nat_abs t' + nat_abs u') * 2 ^ 53 ≤ b * (2 ^ 53 + 3) + 2 ^ 53
    → Near ((above t + below t' + (above u + below u')) * 2 ^ 56) ((above t' + below t + (above u' + below u)) * 2 ^ 56)
    (e + 17 * b + 2 ^ 57) → nat_abs (z -ℤ z') * 2 ^ 56 ≤ e + 34 * b + 2 ^ 58
rounded_near t u z t' u' z' b e o o' s s' n =
    let x = apart_near z (t +ℤ u) o in
    let x' = apart_near z' (t' +ℤ u') o' in
    let sum = abs_add t u in
    let sum' = abs_add t' u' in
    let i = parts_add t u in
    let i' = parts_add t' u' in
    let few : (nat_abs t + nat_abs u) * 16 ≤ b * 17 + 16 = omega arith in
    let few' : (nat_abs t' + nat_abs u') * 16 ≤ b * 17 + 16 = omega arith in
    rw (abs_gap z z') (omega arith)

-- A share of x and the rest of a share of the last one, each from two numbers that are close.
module _ {a c : Float} {p r : ℕ} (h : Share a p) (g : Share c r) (make : MakeUp p r (2 ^ 1074)) where
  pub blend_close : (b e k : ℕ) {x x' last last' : Float} → Close b e x x' → Close b e last last'
      → e + 16 * b ≤ b * 2 ^ 53 → b * 8 + 2 ^ 54 ≤ k * 2 ^ 53 → 2 * b + 2 < roof
      → Close (b + k) (e + 34 * b + 2 ^ 58) (add binary64 (mul binary64 a x) (mul binary64 c last))
      (add binary64 (mul binary64 a x') (mul binary64 c last'))
  blend_close b e k {x} {x'} {last} {last'} n m few step room =
      let vx = signed_units binary64 x in
      let vx' = signed_units binary64 x' in
      let vl = signed_units binary64 last in
      let vl' = signed_units binary64 last' in
      let bx = n.first_size in
      let bx' = n.second_size in
      let bl = m.first_size in
      let bl' = m.second_size in
      let (tn, ts) = mul_share h n.first (omega arith) in
      let (tn', ts') = mul_share h n.second (omega arith) in
      let (un, us) = mul_share g m.first (omega arith) in
      let (un', us') = mul_share g m.second (omega arith) in
      let t = signed_units binary64 (mul binary64 a x) in
      let t' = signed_units binary64 (mul binary64 a x') in
      let u = signed_units binary64 (mul binary64 c last) in
      let u' = signed_units binary64 (mul binary64 c last') in
      let z = signed_units binary64 (add binary64 (mul binary64 a x) (mul binary64 c last)) in
      let z' = signed_units binary64 (add binary64 (mul binary64 a x') (mul binary64 c last')) in
      let size = shares_size make {b = b} vx t vl u ts us bx bl in
      let size' = shares_size make {b = b} vx' t' vl' u' ts' us' bx' bl' in
      let sum = abs_add t u in
      let sum' = abs_add t' u' in
      let o = rounds_off (add_rounds tn un) (omega arith) in
      let o' = rounds_off (add_rounds tn' un') (omega arith) in
      let near = shares_near make {b = b} {e = e} vx t vx' t' vl u vl' u' ts ts' us us' bx bx' bl bl'
      (parts_near vx vx' n.apart) (parts_near vl vl' m.apart) few in
      record {
        first = o.number;
        second = o'.number;
        first_size = rounded_size t u z b k o.close size step;
        second_size = rounded_size t' u' z' b k o'.close size' step;
        apart = rounded_near t u z t' u' z' b e o.close o'.close size size' near;
      }
    where
      parts_near : (v w : ℤ) {e : ℕ} → nat_abs (v -ℤ w) * 2 ^ 56 ≤ e
          → Near ((above v + below w) * 2 ^ 56) ((above w + below v) * 2 ^ 56) e
      parts_near v w h = let n = near_abs v w (le_refl _) in omega arith
