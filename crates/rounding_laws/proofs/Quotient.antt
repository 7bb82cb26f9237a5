-- Quotients of whole numbers: each is one fraction rounded once, and two of them are in the order of their fractions.
-- Assumes nothing.
use mathlib.Core.Path.{◌≡◌, refl, sym, ap, ◌∙◌}
use mathlib.Core.Logic.{◌⊎◌, inl, inr}
use mathlib.Core.Bool.{Bool, false, cond}
use Prim.Native.Nat.{ℕ, ◌+◌, ◌-◌, ◌*◌, ◌^◌, ◌<◌, ◌≤◌}
use native.Mathlib.Nat.{
  le_trans,
  mul-one,
  mul-le-mul_right,
  mul-le-mul_left,
  mul-pos,
  zero-mul,
  eq-zero-or-pos,
  le_of_mul-le-mul_right,
  zero-lt-suc,
  le-mul_of_pos_right,
}
use native.Mathlib.Omega.{arith}
use lib.Dec.{lit≤}
use lib.IntN.{ℤ, pos, negsuc, nat_abs, ◌*ℤ◌, ℤ_discrete}
use lib.Signed.{lt_z}
use lib.Pow.{pow_pos}
use lib.Ieee.{Float, fin, Format, binary32, binary64, prec, low, round, sub, div, lt, of_int}
use lib.Ieee.Order.{kept, drop}
use lib.Ieee.Scale.{grid, overflow, round_same, normal_of_fraction}
use Rattle.rounding.specs.Leaves.{plus_one, minus_one, sign_of}
use Rattle.rounding_laws.proofs.Integers.{above, below, Near, parts_abs, parts_times, self_not_less}
use Rattle.rounding.specs.Nearest.{signed, signed_units, NearestTo}
use Rattle.rounding_laws.proofs.Value.{div_at}
use Rattle.rounding.specs.Whole.{is_negative}
use Rattle.rounding_laws.proofs.Whole.{whole_value}
use Rattle.rounding_laws.proofs.Units.{Worth, unlike_plus, round_worth, worth_negative}
use Rattle.rounding_laws.proofs.Nearest.{round_nearest}
use Rattle.rounding_laws.proofs.Error.{places, closest_near, grid_near, grid_relative, bounded_in_range}
use Rattle.rounding_laws.proofs.About.{
  fine,
  About,
  about_worth,
  about_order,
  about_sign,
  number_lt,
  signed_int,
  zero_is,
}

-- z / n
abbrev pub quotient : Format → ℤ → ℕ → Float
quotient f z n = div f (of_int f z) (of_int f (pos n))

-- what a format asks of them: whole numbers that it counts without a gap
pub record Whole (f : Format) (z : ℤ) (n : ℕ) : Type 0 where
  pub some : 0 < n
  pub size : nat_abs z ≤ 2 ^ prec f
  pub divisor : n ≤ 2 ^ prec f

module _ {f : Format} {z : ℤ} {n : ℕ} (w : Whole f z n) where
  -- one rounding of the fraction
  pub quotient_is : quotient f z n ≡ round f (is_negative z) (nat_abs z) n
  quotient_is =
      div_at (of_int f z) (of_int f (pos n)) (is_negative z) (nat_abs z) 1 false n 1 (zero-lt-suc 0) (zero-lt-suc 0)
      w.some
      (whole_value f z w.size) (whole_value f (pos n) w.divisor) f
      ∙ simp (unlike_plus, mul-one)

-- a quotient of 0 is +0.0
pub quotient_zero : {f : Format} {n : ℕ} → Whole f (pos 0) n → quotient f (pos 0) n ≡ fin false 0 (pos 0)
unfolding of_int
quotient_zero {f} {n} w = quotient_is w ∙ round_same f false 0 n 0 1 w.some (zero-lt-suc 0) (omega arith) ∙ zero_is f

-- ---- the error, relative to the size

fine_halves : (f : Format) → 2 ^ low f ≡ 2 * fine f * 2 ^ (prec f - 1)
fine_halves binary32 = refl
fine_halves binary64 = refl

fine_wide : (f : Format) → 2 ^ prec f ≤ 2 * fine f
fine_wide binary32 = lit≤ tt
fine_wide binary64 = lit≤ tt

grid_zero : (f : Format) (c : ℕ) → 0 < c → grid f 0 c ≡ 0
grid_zero f c C =
    let k = drop (prec f) (0 * 2 ^ low f) c in
    let b = c * 2 ^ k in
    let n = closest_near (0 * 2 ^ low f) b (mul-pos C (pow_pos k)) in
    let l : kept (prec f) (0 * 2 ^ low f) c * 2 ≤ 1 = le_of_mul-le-mul_right {k = b} (omega arith)
    (mul-pos C (pow_pos k)) in
    let z : kept (prec f) (0 * 2 ^ low f) c ≡ 0 = omega arith in
    ap (λ (q : ℕ). q * 2 ^ k) z ∙ zero-mul (2 ^ k)

module _ (f : Format) (a n : ℕ) (N : 0 < n) (d : n ≤ 2 ^ prec f) where
  grid_share : Near (grid f a n * n * 2) (a * 2 ^ low f * 2) (a * 2 * fine f)
  grid_share = go (eq-zero-or-pos a)
    where
      go : (a ≡ 0) ⊎ (0 < a) → Near (grid f a n * n * 2) (a * 2 ^ low f * 2) (a * 2 * fine f)
      go (inl e) = rw (e, grid_zero f n N) (omega arith)
      go (inr p) =
          let top = 2 ^ (prec f - 1) in
          let s = fine_halves f in
          let b = mul-le-mul_left top (le_trans d (fine_wide f)) in
          let c = mul-le-mul_right (2 ^ low f) p in
          let normal : top * n ≤ a * 2 ^ low f = omega arith in
          let g = grid_relative f a n N (normal_of_fraction f a n N normal) in
          let t = ap (λ (z : ℕ). a * z) s in
          let r : n * 2 ^ places f a n ≤ a * 2 * fine f = le_of_mul-le-mul_right {k = top} (omega arith)
          (pow_pos (prec f - 1)) in
          omega (arith, grid_near f a n N)

  grid_inside : a ≤ 2 ^ prec f → grid f a n < overflow f
  grid_inside h = bounded_in_range f a n a N h (le-mul_of_pos_right a N)

module _ {f : Format} {z : ℤ} {n : ℕ} (w : Whole f z n) where
  pub quotient_worth : Worth f (quotient f z n) (is_negative z) (grid f (nat_abs z) n)
  quotient_worth = rw (quotient_is w) (round_worth f (is_negative z) (nat_abs z) n
      (grid_inside f (nat_abs z) n w.some w.divisor w.size))

  -- no number of the format is nearer to the fraction
  pub quotient_nearest : NearestTo f z n (quotient f z n)
  quotient_nearest =
      let r = round_nearest f (is_negative z) (nat_abs z) n w.some
      (grid_inside f (nat_abs z) n w.some w.divisor w.size) in
      rw (quotient_is w) (rw signed_int at r)

  -- it stands for its fraction, within 2 ^ -prec of its size
  pub about_quotient : About f (quotient f z n) z n (nat_abs z * 2)
  about_quotient =
      let a : About f (quotient f z n) (signed (is_negative z) (nat_abs z)) n (nat_abs z * 2) =
      about_worth (nat_abs z) quotient_worth (grid_share f (nat_abs z) n w.some w.divisor) in
      rw signed_int at a

-- ---- order

sign_same : (a b : ℤ) (n m : ℕ) → 0 < n → 0 < m → below a * m ≡ below b * n → is_negative a ≡ is_negative b
sign_same (pos a) (pos b) n m N M e = refl
sign_same (pos a) (negsuc b) n m N M e = absurd (omega (arith, mul-pos (zero-lt-suc b) N))
sign_same (negsuc a) (pos b) n m N M e = absurd (omega (arith, mul-pos (zero-lt-suc a) M))
sign_same (negsuc a) (negsuc b) n m N M e = refl

module _ {f : Format} {a b : ℤ} {n m : ℕ} (v : Whole f a n) (w : Whole f b m) where
  -- equal fractions have the same quotient
  pub quotient_same : a *ℤ pos m ≡ b *ℤ pos n → quotient f a n ≡ quotient f b m
  quotient_same e =
      let p = parts_times a m in
      let q = parts_times b n in
      let x : above a * m ≡ above b * n = omega (arith, ap above e) in
      let y : below a * m ≡ below b * n = omega (arith, ap below e) in
      let z : nat_abs a * m ≡ nat_abs b * n = rw (← parts_abs a, ← parts_abs b) (omega arith) in
      quotient_is v
      ∙ rw (sign_same a b n m v.some w.some y)
      (round_same f (is_negative b) (nat_abs a) n (nat_abs b) m v.some w.some z)
      ∙ sym (quotient_is w)

  module _ (h : nat_abs a * m + nat_abs b * n < 2 ^ prec f) where
    -- quotients are in the order of their fractions
    pub quotient_lt : lt (quotient f a n) (quotient f b m) ≡ lt_z (a *ℤ pos m) (b *ℤ pos n)
    quotient_lt = go (ℤ_discrete (a *ℤ pos m) (b *ℤ pos n))
      where
        go : Dec (a *ℤ pos m ≡ b *ℤ pos n) → lt (quotient f a n) (quotient f b m) ≡ lt_z (a *ℤ pos m) (b *ℤ pos n)
        go (yes e) =
            let i = (about_quotient w).number in
            rw (quotient_same e, e) (number_lt i i ∙ self_not_less (signed_units f (quotient f b m))
            ∙ sym (self_not_less (b *ℤ pos n)))
        go (no k) = about_order (about_quotient v) (about_quotient w) k (omega arith)

-- and the sign of their difference says it
pub quotient_sign : {a b : ℤ} {n m : ℕ} → Whole binary64 a n → Whole binary64 b m
    → nat_abs a * m + nat_abs b * n < 2 ^ 53
    → sign_of (sub binary64 (quotient binary64 a n) (quotient binary64 b m))
    ≡ cond (lt_z (a *ℤ pos m) (b *ℤ pos n)) minus_one plus_one
quotient_sign {a} {b} {n} {m} v w h =
    let l = le-mul_of_pos_right (nat_abs a) w.some in
    about_sign (about_quotient v) (about_quotient w) (worth_negative (quotient_worth v)) (omega arith)
    ∙ ap (λ (t : Bool). cond t minus_one plus_one) (quotient_lt v w h)
