-- How far `round` moves a number, in units: at most half of the last digit that it keeps. Assumes nothing.
use mathlib.Core.Path.{◌≡◌}
use mathlib.Core.Bool.{not}
use Prim.Native.Nat.{
  ℕ,
  suc,
  ◌+◌,
  ◌-◌,
  ◌*◌,
  ◌/◌,
  ◌%◌,
  ◌^◌,
  ◌<◌,
  ◌≤◌,
  compare,
  Ordering,
}
use native.Mathlib.Nat.{
  mod-lt,
  div-add-mod',
  mul-le-mul_right,
  mul-le-mul_left,
  mul-pos,
  div-lt_iff_lt-mul,
  lt_of_mul-lt-mul_right,
  sub-le,
  le-div_iff_mul-le,
  mul-lt-mul_of_pos_right,
  pow-suc,
}
use native.Mathlib.Omega.{arith}
use lib.Dec.{T, is_le, compare_is_eq, leb→le, nleb→lt, eqb→eq, lit≤}
use lib.Pow.{pow-add, pow_pos, pow_mono}
use lib.Ieee.{Format, binary32, binary64, prec, emax, low, size, nearest}
use lib.Ieee.Digits.{size-le, size_reaches}
use lib.Ieee.Fits.{two}
use lib.Ieee.Nearest.{closest}
use lib.Ieee.Order.{drop}
use lib.Ieee.Scale.{grid, overflow}
use Rattle.rounding_laws.proofs.Integers.{Near}

-- a / b to the nearest whole number, within a half
pub closest_near : (a b : ℕ) → 0 < b → Near (closest a b * b * 2) (a * 2) b
closest_near a b B = go (compare (a % b * 2) b) (leb→le (a % b * 2) b) (nleb→lt (a % b * 2) b) (eqb→eq (a % b * 2) b)
  where
    go : (o : Ordering) → (T (is_le o) → a % b * 2 ≤ b) → (T (not (is_le o)) → b < a % b * 2)
        → (T (compare_is_eq o) → a % b * 2 ≡ b)
        → Near (nearest (a / b) o * b * 2) (a * 2) b
    go Ordering.lt h k e =
        let l : a % b * 2 ≤ b = h tt in
        omega (arith, div-add-mod' a b)
    go Ordering.eq h k e =
        let l : a % b * 2 ≡ b = e tt in
        let t : a / b % 2 * b ≤ 1 * b = mul-le-mul_right b (omega arith) in
        omega (arith, div-add-mod' a b)
    go Ordering.gt h k e =
        let l : b < a % b * 2 = k tt in
        let r : a % b < b = mod-lt a B in
        omega (arith, div-add-mod' a b)

-- how many binary places of a / c, in units, are dropped
abbrev pub places : Format → ℕ → ℕ → ℕ
places f a c = drop (prec f) (a * 2 ^ low f) c

-- a / c rounded, within half of the last place that is kept
module _ (f : Format) (a c : ℕ) (C : 0 < c) where
  pub grid_near : Near (grid f a c * c * 2) (a * 2 ^ low f * 2) (c * 2 ^ places f a c)
  grid_near = let k = places f a c in let n = closest_near (a * 2 ^ low f) (c * 2 ^ k) (mul-pos C (pow_pos k)) in
      omega arith

  -- a fraction below 2 ^ j units
  module _ (j : ℕ) (h : a * 2 ^ low f < 2 ^ j * c) where
    few_places : 2 ^ places f a c ≤ 2 ^ (j - prec f)
    few_places =
        let s : size (a * 2 ^ low f / c) ≤ j = size-le (a * 2 ^ low f / c) j ((div-lt_iff_lt-mul C).1 h) in
        pow_mono (omega arith)

    pub grid_within : Near (grid f a c * c * 2) (a * 2 ^ low f * 2) (c * 2 ^ (j - prec f))
    grid_within = let n = grid_near in let m = mul-le-mul_left c few_places in omega arith

    pub grid_range : j ≤ low f + emax f → grid f a c < overflow f
    grid_range l =
        let n = grid_within in
        let m : c * 2 ^ (j - prec f) ≤ c * 2 ^ j = mul-le-mul_left c (pow_mono (sub-le j (prec f))) in
        let k : grid f a c * 2 < 3 * 2 ^ j = lt_of_mul-lt-mul_right c (omega arith) in
        let o : 2 ^ suc j ≤ overflow f = pow_mono (omega arith) in
        omega arith

  -- a fraction in the normal range: the error is at most one part in 2 ^ (prec - 1)
  pub grid_relative : prec f ≤ size (a * 2 ^ low f / c) → c * 2 ^ places f a c * 2 ^ (prec f - 1) ≤ a * 2 ^ low f
  grid_relative h =
      let w = a * 2 ^ low f / c in
      let t = two f in
      let k = size w - prec f in
      let r : 2 ^ (prec f - 1) * 2 ^ k * c ≤ a * 2 ^ low f =
      rw (← pow-add 2 (prec f - 1) k) ((le-div_iff_mul-le C).0 (size_reaches w (prec f - 1 + k) (omega arith))) in
      omega arith

-- ---- a fraction of at most a number that the format counts without a gap

room : (f : Format) → low f + suc (prec f) ≤ low f + emax f
room binary32 = lit≤ tt
room binary64 = lit≤ tt

pub bounded_in_range : (f : Format) (a c b : ℕ) → 0 < c → b ≤ 2 ^ prec f → a ≤ b * c → grid f a c < overflow f
bounded_in_range f a c b C B h =
    let l = mul-le-mul_right c B in
    let g : a < 2 ^ suc (prec f) * c = rw (pow-suc 2 (prec f)) (omega (arith, mul-pos (pow_pos (prec f)) C)) in
    let k : a * 2 ^ low f < 2 ^ (low f + suc (prec f)) * c = rw (pow-add 2 (low f) (suc (prec f)))
    (omega (arith, mul-lt-mul_of_pos_right g (pow_pos (low f)))) in
    grid_range f a c C (low f + suc (prec f)) k (room f)
