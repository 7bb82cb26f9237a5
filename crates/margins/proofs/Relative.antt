-- The error of one operation relative to its exact result, in units. A sum or a difference is off by at most 2 ^ -prec
-- of itself, also among the smallest numbers, where it is exact; a quotient by half a unit more. Assumes nothing.
use mathlib.Core.Path.{◌≡◌, refl, ap, ◌∙◌}
use mathlib.Core.Bool.{Bool, true, false, not}
use Prim.Native.Nat.{ℕ, zero, suc, ◌+◌, ◌-◌, ◌*◌, ◌/◌, ◌^◌, ◌<◌, ◌≤◌}
use native.Mathlib.Nat.{
  le_refl,
  le_trans,
  not-suc-le-zero,
  le-mul_of_pos_right,
  zero-mul,
  mul-one,
  mul_comm,
  mul-lt-mul_of_pos_left,
  mul-pos,
  mul-le-mul_right,
  mul-lt-mul_of_pos_right,
  le_of_mul-le-mul_right,
}
use native.Mathlib.Omega.{arith}
use lib.Dec.{T, leb, lit≤, leb→le, nleb→lt}
use lib.IntN.{ℤ, pos, negsuc, nat_abs, ◌+ℤ◌, ◌-ℤ◌, ◌*ℤ◌}
use lib.Pow.{pow_pos}
use lib.Ieee.{Float, fin, Format, binary32, binary64, prec, low, size, add, sub, div, of_int, fits}
use lib.Ieee.Scale.{grid, overflow}
use Rattle.rounding.specs.Leaves.{one, negative, sign_of}
use Rattle.rounding.specs.Nearest.{signed, in_units, signed_units, Number}
use Rattle.rounding.specs.Whole.{is_negative}
use Rattle.rounding.proofs.Signs.{sign_round}
use Rattle.rounding_laws.proofs.Integers.{
  above,
  below,
  Near,
  parts_add,
  parts_signed,
  parts_times,
  near_abs,
  abs_gap,
  abs_minus,
  parts_abs,
}
use Rattle.rounding_laws.proofs.Units.{
  Worth,
  worth,
  worth_number,
  worth_units,
  worth_div,
  abs_signed,
  abs_units,
  round_worth,
}
pub use Rattle.rounding_laws.proofs.About.{Rounds, add_rounds, sub_rounds}
use Rattle.rounding_laws.proofs.About.{signed_back, near_over}
use Rattle.rounding_laws.proofs.Error.{places, grid_near, grid_range, grid_relative}

-- ---- how far the laws of running sums reach

-- Bounds of their own: a running sum is off by more with each bar and with each cell of its window, and the margin is
-- wide enough up to these numbers. The limits of a call are no larger; a smaller limit leaves the laws as they are.

-- the cells of a window
abbrev pub widest : ℕ
widest = 4096

-- the bars of a series
abbrev pub longest_summed : ℕ
longest_summed = 65536

-- ---- a fraction rounded

half : (f : Format) → 2 ^ prec f ≡ 2 ^ (prec f - 1) * 2
half binary32 = refl
half binary64 = refl

-- by at most 2 ^ -prec of itself and half a unit
pub grid_off : (f : Format) (a c : ℕ) → 0 < c
    → Near (grid f a c * c * 2 ^ prec f) (a * 2 ^ low f * 2 ^ prec f) (a * 2 ^ low f + c * 2 ^ (prec f - 1))
grid_off f a c C = go (leb (prec f) digits) (leb→le (prec f) digits) (nleb→lt (prec f) digits)
  where
    digits : ℕ
    digits = size (a * 2 ^ low f / c)

    go : (t : Bool) → (T t → prec f ≤ digits) → (T (not t) → digits < prec f)
        → Near (grid f a c * c * 2 ^ prec f) (a * 2 ^ low f * 2 ^ prec f) (a * 2 ^ low f + c * 2 ^ (prec f - 1))
    go true h k =
        let n = grid_near f a c C in
        let r = grid_relative f a c C (h tt) in
        let p = mul-le-mul_right (2 ^ (prec f - 1)) n.above_by in
        let q = mul-le-mul_right (2 ^ (prec f - 1)) n.below_by in
        rw (half f) (omega arith)
    go false h k =
        let l : digits < prec f = k tt in
        let none : places f a c ≡ 0 = omega arith in
        let n = grid_near f a c C in
        let e : c * 2 ^ places f a c ≡ c = ap (λ (k : ℕ). c * 2 ^ k) none ∙ mul-one c in
        let u = ap (λ (k : ℕ). k * 2 ^ (prec f - 1)) e in
        let p = mul-le-mul_right (2 ^ (prec f - 1)) n.above_by in
        let q = mul-le-mul_right (2 ^ (prec f - 1)) n.below_by in
        rw (half f) (omega arith)

-- whole units: by 2 ^ -prec of themselves
pub whole_off : (f : Format) (a : ℕ) → Near (grid f a (2 ^ low f) * 2 ^ prec f) (a * 2 ^ prec f) a
whole_off f a = go (leb (prec f) digits) (leb→le (prec f) digits) (nleb→lt (prec f) digits)
  where
    u : ℕ
    u = 2 ^ low f

    U : 0 < u
    U = pow_pos (low f)

    digits : ℕ
    digits = size (a * u / u)

    go : (t : Bool) → (T t → prec f ≤ digits) → (T (not t) → digits < prec f)
        → Near (grid f a u * 2 ^ prec f) (a * 2 ^ prec f) a
    go true h k =
        let n = grid_near f a u U in
        let r = grid_relative f a u U (h tt) in
        let p = mul-le-mul_right (2 ^ (prec f - 1)) n.above_by in
        let q = mul-le-mul_right (2 ^ (prec f - 1)) n.below_by in
        rw (half f) (record {
          above_by = le_of_mul-le-mul_right {k = u} (omega arith) U;
          below_by = le_of_mul-le-mul_right {k = u} (omega arith) U;
        })
    go false h k =
        let l : digits < prec f = k tt in
        let none : places f a u ≡ 0 = omega arith in
        let n = grid_near f a u U in
        let e : u * 2 ^ places f a u ≡ u = ap (λ (k : ℕ). u * 2 ^ k) none ∙ mul-one u in
        let over : grid f a u * 2 ≤ a * 2 + 1 = le_of_mul-le-mul_right {k = u} (omega arith) U in
        let under : a * 2 ≤ grid f a u * 2 + 1 = le_of_mul-le-mul_right {k = u} (omega arith) U in
        let same : grid f a u ≡ a = omega arith in
        rw same (omega arith)

-- ---- numbers of f64, and integers of units

-- x is a number, and it is z units within e parts of 2 ^ 53 of a unit
pub record Off (x : Float) (z : ℤ) (e : ℕ) : Type 0 where
  pub number : Number binary64 x
  pub close : nat_abs (signed_units binary64 x -ℤ z) * 2 ^ 53 ≤ e

pub apart_near : (v z : ℤ) {e : ℕ} → nat_abs (v -ℤ z) * 2 ^ 53 ≤ e
    → Near ((above v + below z) * 2 ^ 53) ((above z + below v) * 2 ^ 53) e
apart_near v z h = let n = near_abs v z (le_refl _) in omega arith

pub near_apart : (v z : ℤ) {e : ℕ} → Near ((above v + below z) * 2 ^ 53) ((above z + below v) * 2 ^ 53) e
    → nat_abs (v -ℤ z) * 2 ^ 53 ≤ e
near_apart v z h = rw (abs_gap v z) (omega arith)

pub off_near : {x : Float} {z : ℤ} {e : ℕ} → Off x z e
    → Near ((above (signed_units binary64 x) + below z) * 2 ^ 53) ((above z + below (signed_units binary64 x)) * 2 ^ 53)
    e
off_near {x} {z} o = apart_near (signed_units binary64 x) z o.close

-- the largest numbers are farther off
unfoldable pub roof : ℕ
roof = 2 ^ 2097

few : (a : ℕ) → a < roof → grid binary64 a (2 ^ 1074) < overflow binary64
unfolding roof
few a h =
    grid_range binary64 a (2 ^ 1074) (pow_pos 1074) 2097
    (rw (mul_comm a (2 ^ 1074), mul_comm (2 ^ 2097) (2 ^ 1074)) (mul-lt-mul_of_pos_left h (pow_pos 1074))) (lit≤ tt)

signed_off : (s : Bool) (g a : ℕ) → Near (g * 2 ^ 53) (a * 2 ^ 53) a
    → nat_abs (signed s g -ℤ signed s a) * 2 ^ 53 ≤ nat_abs (signed s a)
signed_off true g a n =
    let p = parts_signed true g in
    let q = parts_signed true a in
    rw (abs_signed true a) (near_apart (signed true g) (signed true a) (rw (p.0, p.1, q.0, q.1) (omega arith)))
signed_off false g a n = near_apart (pos g) (pos a) (omega arith)

-- what is one fraction of whole units, rounded: a sum, or a difference
pub rounds_off : {x : Float} {z : ℤ} → Rounds binary64 x z (2 ^ 1074) → nat_abs z < roof → Off x z (nat_abs z)
rounds_off {x} {z} r h =
    let small = rw (← r.of, abs_signed r.sign r.count) at h in
    let w = round_worth binary64 r.sign r.count (2 ^ 1074) (few r.count small) in
    rw (r.is, ← r.of)
    (record {
      number = worth_number w;
      close = rw (worth_units w)
          (signed_off r.sign (grid binary64 r.count (2 ^ 1074)) r.count (whole_off binary64 r.count));
    })

-- ---- sums and differences

-- what is near a small number is small
pub size_by : (v z : ℤ) {e q : ℕ} → Near (above v + below z) (above z + below v) e → nat_abs z + e ≤ q → nat_abs v ≤ q
size_by (pos v) (pos z) n h = omega arith
size_by (pos v) (negsuc z) n h = omega arith
size_by (negsuc v) (pos z) n h = omega arith
size_by (negsuc v) (negsuc z) n h = omega arith

-- x stands for z and y for w: so does their sum for z + w, if that is not near the largest numbers
pub add_off : {x y : Float} {z w : ℤ} {d e : ℕ} (q : ℕ) → Off x z d → Off y w e
    → nat_abs (z +ℤ w) * 2 ^ 53 + d + e ≤ q * 2 ^ 53 → q < roof
    → Off (add binary64 x y) (z +ℤ w) (d + e + q)
add_off {x} {y} {z} {w} {d} {e} q o p h l =
    let v = signed_units binary64 x in
    let t = signed_units binary64 y in
    let a = off_near o in
    let b = off_near p in
    let i = parts_add v t in
    let j = parts_add z w in
    let g = near_apart (v +ℤ t) (z +ℤ w) {e = d + e} (omega arith) in
    let near = near_abs (v +ℤ t) (z +ℤ w) (le_refl _) in
    let s = parts_abs (v +ℤ t) in
    let u = parts_abs (z +ℤ w) in
    let small : nat_abs (v +ℤ t) ≤ q = size_by (v +ℤ t) (z +ℤ w) near (omega arith) in
    let r = rounds_off (add_rounds o.number p.number) (omega arith) in
    let c = off_near r in
    record { number = r.number; close = near_apart (signed_units binary64 (add binary64 x y)) (z +ℤ w) (omega arith) }

pub off_weaken : {x : Float} {z : ℤ} {d : ℕ} (e : ℕ) → Off x z d → d ≤ e → Off x z e
off_weaken e o h = record { number = o.number; close = le_trans o.close h }

-- a number stands for itself
pub off_self : {x : Float} → Number binary64 x → Off x (signed_units binary64 x) 0
off_self {x} n = let v = signed_units binary64 x in record { number = n; close = near_apart v v (omega arith) }

-- and -0.0 for 0
pub off_minus_zero : Off (fin true 0 (pos 0)) (pos 0) 0
unfolding fits
off_minus_zero =
    let w : Worth binary64 (fin true 0 (pos 0)) true 0 = record { fit = tt; value = (refl, simp zero-mul) } in
    record { number = worth_number w; close = rw (worth_units w) (omega arith) }

-- how many units at most
pub off_size : {x : Float} {z : ℤ} {e : ℕ} (q : ℕ) → Off x z e → nat_abs z * 2 ^ 53 + e ≤ q * 2 ^ 53
    → nat_abs (signed_units binary64 x) ≤ q
off_size {x} {z} q o h =
    let v = signed_units binary64 x in
    let c = o.close in
    size_by v z (near_abs v z (le_refl _)) (omega arith)

pub sub_off : {x y : Float} (q : ℕ) → Number binary64 x → Number binary64 y
    → nat_abs (signed_units binary64 x) + nat_abs (signed_units binary64 y) ≤ q → q < roof
    → Off (sub binary64 x y) (signed_units binary64 x -ℤ signed_units binary64 y) q
sub_off {x} {y} q n m h l =
    let k = abs_minus (signed_units binary64 x) (signed_units binary64 y) in
    off_weaken q (rounds_off (sub_rounds n m) (omega arith)) (omega arith)

-- ---- quotients

-- a units over n
pub share_off : (f : Format) (a n : ℕ) → 0 < n
    → Near (grid f a (n * 2 ^ low f) * n * 2 ^ prec f) (a * 2 ^ prec f) (a + n * 2 ^ (prec f - 1))
share_off f a n N =
    let u = 2 ^ low f in
    let o = grid_off f a (n * u) (mul-pos N (pow_pos (low f))) in
    near_over u (pow_pos (low f)) (omega arith)

pub share_few : (a n : ℕ) → 0 < n → a < roof → grid binary64 a (n * 2 ^ 1074) < overflow binary64
unfolding roof
share_few a n N h =
    grid_range binary64 a (n * 2 ^ 1074) (mul-pos N (pow_pos 1074)) 2097
    (share_room a n (2 ^ 2097) (2 ^ 1074) N (pow_pos 1074) h) (lit≤ tt)
  where
    share_room : (a n r u : ℕ) → 0 < n → 0 < u → a < r → a * u < r * (n * u)
    share_room a n r u N U h =
        let p = mul-lt-mul_of_pos_right h U in
        let q = le-mul_of_pos_right (r * u) N in
        omega arith

-- times n it is x again, within 2 ^ -53 of x and n halves of a unit
pub div_off : {x : Float} (n : ℕ) → Number binary64 x → 0 < n → n ≤ 2 ^ 53 → nat_abs (signed_units binary64 x) < roof
    → let q = div binary64 x (of_int binary64 (pos n)) in
    Number binary64 q
    × (nat_abs (signed_units binary64 q *ℤ pos n -ℤ signed_units binary64 x) * 2 ^ 53
    ≤ nat_abs (signed_units binary64 x) + n * 2 ^ 52)
div_off {x} n m N L h =
    let a = in_units binary64 x in
    let s = negative x in
    let g = grid binary64 a (n * 2 ^ 1074) in
    let w = round_worth binary64 s a (n * 2 ^ 1074) (share_few a n N (rw (abs_units binary64 x) at h)) in
    let z = signed s g *ℤ pos n in
    let t = parts_times (signed s g) n in
    rw (worth_div (worth x m) n N L)
    (worth_number w, rw (worth_units w, ← signed_back binary64 x) (go s a g (share_off binary64 a n N)))
  where
    go : (s : Bool) (a g : ℕ) → Near (g * n * 2 ^ 53) (a * 2 ^ 53) (a + n * 2 ^ 52)
        → nat_abs (signed s g *ℤ pos n -ℤ signed s a) * 2 ^ 53 ≤ nat_abs (signed s a) + n * 2 ^ 52
    go true a g o =
        let t = parts_times (signed true g) n in
        let p = parts_signed true g in
        let q = parts_signed true a in
        rw (abs_signed true a)
        (near_apart (signed true g *ℤ pos n) (signed true a) (rw (t.0, t.1, p.0, p.1, q.0, q.1) (omega arith)))
    go false a g o = near_apart (pos g *ℤ pos n) (pos a) (omega arith)

-- ---- signs

pub one_sign : (s : Bool) (u : ℕ) → 0 < nat_abs (signed s u) → is_negative (signed s u) ≡ s
one_sign true zero h = absurd (not-suc-le-zero h)
one_sign true (suc u) h = refl
one_sign false u h = refl

-- a difference other than 0 has its sign
pub sub_sign : {x y : Float} → Number binary64 x → Number binary64 y
    → 0 < nat_abs (signed_units binary64 x -ℤ signed_units binary64 y)
    → sign_of (sub binary64 x y) ≡ one (is_negative (signed_units binary64 x -ℤ signed_units binary64 y))
sub_sign {x} {y} n m h =
    let r = sub_rounds n m in
    let k = one_sign r.sign r.count (rw r.of h) in
    rw (r.is, ← r.of, k) (sign_round r.sign r.count (2 ^ 1074))
