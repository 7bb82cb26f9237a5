-- Why `round_to_whole` is right: doubling is exact below 2 ^ 52, the whole part of twice a number says where its half
-- goes, and from 2 ^ 52 on every number is whole. Assumes nothing.
use Rattle.std.proofs.Common.{◌≡◌, ℕ, zero, suc, ◌+◌, ◌-◌, ◌*◌, ◌/◌, ◌%◌, ◌^◌, ◌<◌, ◌≤◌, min, Bool, true, false, ◌&&◌, T, eqb, ltb, leb, ℤ, pos, negsuc, sym, refl, ap, ◌∙◌, true≢false, le_of_eq, lt_of_lt_of_le, le_of_suc-le-suc, lt_of_le_of_lt, lt_irrefl, zero-lt-suc, mul_assoc, mul_comm, div-lt_iff_lt-mul, lt_of_mul-lt-mul_right, mul-lt-mul_of_pos_right, mul-pos, one-mul, lt_of_not-le, zero-mul, mul-one, mul_right_comm, arith, lit<, lit≤, eqb→eq, ltb→lt, lt→ltb, leb→le, pow_pos, pow_mono, pow-add, shl_lt, ltb-false, ltb-true}
use native.Mathlib.Nat.{add-div_right, pow-succ', div-div-eq-div-mul}
use lib.Pow.{pow-lt}
use lib.Ieee.{Float, nan, inf, fin, binary64, up, down, round, mul, lt, fits, to_unsigned}
use lib.Ieee.Exact.{HasValue, round_exact}
use lib.Ieee.Fits.{and_l, and_r, down_pos, round-fits}
use lib.Ieee.Back.{round_whole, whole_unique}
use lib.Ieee.Scale.{round_same}
use lib.Ieee.Nearest.{div_same}
use Rattle.rounding.specs.Leaves.{one, magnitude_of, sign_of, round_to_whole}

-- ---- what an f64 is written with

pub record Written (m : ℕ) (e : ℤ) : Type 0 where
  pub digits : m < 2 ^ 53
  pub places : down e ≤ 2 ^ 1074
  pub size : m * up e < 2 ^ 1024 * down e

one_down : (e : ℤ) → up e * down e ≡ 1 → down e ≡ 1
one_down (pos k) h = refl
one_down (negsuc k) h = sym (one-mul (2 ^ suc k)) ∙ h

pub written : (s : Bool) (m : ℕ) (e : ℤ) → T (fits binary64 (fin s m e)) → Written m e
unfolding fits
written s zero e t =
    let d : down e ≡ 1 = one_down e (eqb→eq (up e * down e) 1 t) in
    record { digits = lit< tt; places = rw d (lit≤ tt); size = rw (zero-mul, d) (lit< tt) }
written s (suc m) e t =
    let odd = eqb (suc m % 2) 1 in
    let small = ltb (suc m) (2 ^ 53) in
    let near = leb (down e) (2 ^ 1074) in
    let below = ltb (suc m * up e) (2 ^ 1024 * down e) in
    let a = and_l (odd && small && near) below t in
    let b = and_l (odd && small) near a in
    record {
      digits = ltb→lt (suc m) (2 ^ 53) (and_r odd small b);
      places = leb→le (down e) (2 ^ 1074) (and_r (odd && small) near a);
      size = ltb→lt (suc m * up e) (2 ^ 1024 * down e) (and_r (odd && small && near) below t);
    }

-- ---- below 2 ^ 52: twice the number, its whole part, and one more halved

abbrev two : Float
two = fin false 1 (pos 1)

pub pow_le_back : (a b : ℕ) → 2 ^ a ≤ 2 ^ b → a ≤ b
pow_le_back a b h = le_of_suc-le-suc (lt_of_not-le (λ (g : suc b ≤ a). lt_irrefl (2 ^ b) (lt_of_lt_of_le (pow-lt g) h)))

rest : (k : ℕ) → suc k ≤ 1074 → 1074 - k + suc k ≡ 1075
rest k h = omega arith

few : (k : ℕ) → 53 + (1074 - k) ≤ 2098
few k = omega arith

-- twice a number, as a fraction
twice : (m : ℕ) (e : ℤ) → Written m e → m * up e < 2 ^ 52 * down e
    → HasValue (mul binary64 (fin false m e) two) false (m * up e * 2) (down e * 1)
unfolding mul
twice m (pos k) w h =
    let moved : m * 2 ^ (k + 1075) ≡ m * 2 ^ k * 2 ^ 1075 = rw (pow-add, mul_assoc) in
    round_exact binary64 false (m * 2 ^ k * 2) 1 m (k + 1075) (zero-lt-suc 0) w.digits
    (rw moved (lt_of_lt_of_le (shl_lt 52 1075 h) (lit≤ tt)))
    (rw (mul-one, moved) (mul_assoc (m * 2 ^ k) 2 (2 ^ 1074)))
twice m (negsuc k) w h =
    round_exact binary64 false (m * 1 * 2) (2 ^ suc k * 1) m (1074 - k) (mul-pos (pow_pos (suc k)) (zero-lt-suc 0))
    w.digits
    (lt_of_lt_of_le (shl_lt 53 (1074 - k) w.digits) (pow_mono (few k)))
    (rw (
      mul-one,
      mul-one,
      mul_assoc m (2 ^ (1074 - k)),
      ← pow-add 2 (1074 - k) (suc k),
      rest k
          (pow_le_back (suc k) 1074 w.places),
    ) (mul_assoc m 2 (2 ^ 1074)))

-- what the cast asks and gives of a value below 2 ^ 53
pub record Cut (y : Float) (n : ℕ) : Type 0 where
  pub above : T (lt (fin true 1 (pos 0)) y)
  pub below : T (lt y (fin false 1 (pos 64)))
  pub part : to_unsigned 64 y ≡ n

-- n / d is a / c
under : (n d a c p : ℕ) → 0 < c → 0 < d → n * c ≡ a * d → a < p * c → n < p * d
under n d a c p C D v h = lt_of_mul-lt-mul_right c
    (lt_of_le_of_lt (le_of_eq v) (lt_of_lt_of_le (mul-lt-mul_of_pos_right h D) (le_of_eq (mul_right_comm p c d))))

cut : (y : Float) (a c : ℕ) → 0 < c → HasValue y false a c → a < 2 ^ 53 * c → Cut y (a / c)
unfolding lt to_unsigned
cut nan a c p v h = absurd v
cut (inf s) a c p v h = absurd v
cut (fin true m e) a c p v h = absurd (true≢false v.0)
cut (fin false m e) a c p v h =
    let n = m * up e in
    let d = down e in
    let pos_d : 0 < d = down_pos e in
    let small : n < 2 ^ 53 * d = under n d a c (2 ^ 53) p pos_d v.1 h in
    let less : n / d < 2 ^ 53 = (div-lt_iff_lt-mul pos_d).1 small in
    let same : n / d ≡ a / c = div_same n d a c pos_d p v.1 in
    record {
      above = lt→ltb 0 (1 * d + n * 1) (omega arith);
      below = lt→ltb (n * 1) (1 * 2 ^ 64 * d) (omega arith);
      part = sym (uncapped (n / d) less) ∙ same;
    }
  where
    uncapped : (k : ℕ) → k < 2 ^ 53 → k ≡ min k (2 ^ 64 - 1)
    uncapped k l = omega arith

-- half of one more than the whole part of twice n / d is the whole part of n / d + 1 / 2
half_of_more : (n d : ℕ) → 0 < d → (n * 2 / (d * 1) + 1) / 2 ≡ (2 * n + d) / (2 * d)
half_of_more n d p = rw (mul-one, ← add-div_right (n * 2) p, div-div-eq-div-mul, mul_comm n 2, mul_comm d 2)

same_fraction : (s : Bool) (m : ℕ) (e : ℤ) (q : ℕ) → m * up e * 1 ≡ q * down e
    → round binary64 s (m * up e * 1) (down e * 1) ≡ round binary64 s q 1
same_fraction s m e q v = round_same binary64 s (m * up e * 1) (down e * 1) q 1 (rw mul-one (down_pos e))
    (zero-lt-suc 0) (rw (mul-one, v, mul-one))

-- a whole number with a sign
times_one : (y : Float) (s : Bool) (q : ℕ) → HasValue y false q 1 → mul binary64 y (one s) ≡ round binary64 s q 1
unfolding mul
times_one nan s q v = absurd v
times_one (inf t) s q v = absurd v
times_one (fin true m e) s q v = absurd (true≢false v.0)
times_one (fin false m e) true q v = same_fraction true m e q v.1
times_one (fin false m e) false q v = same_fraction false m e q v.1

-- ---- what the steps of `round_to_whole` ask and give

-- twice the magnitude
abbrev pub doubled : Float → Float
doubled x = mul binary64 (magnitude_of x) two

-- a magnitude below 2 ^ 52: its double can be cut to a whole number, and one more than that, halved, is what is wanted
pub record Halves (x : Float) : Type 0 where
  pub above : T (lt (fin true 1 (pos 0)) (doubled x))
  pub below : T (lt (doubled x) (fin false 1 (pos 64)))
  pub small : to_unsigned 64 (doubled x) < 2 ^ 53
  pub whole : mul binary64 (round binary64 false ((to_unsigned 64 (doubled x) + 1) / 2) 1) (sign_of x)
      ≡ round_to_whole x

pub halves : (x : Float) → T (fits binary64 x) → lt (magnitude_of x) (fin false 1 (pos 52)) ≡ true → Halves x
unfolding lt magnitude_of sign_of round_to_whole
halves nan f l = absurd (true≢false (sym l))
halves (inf s) f l = absurd (true≢false (sym l))
halves (fin s m e) f l =
    let n = m * up e in
    let d = down e in
    let pos_d : 0 < d * 1 = rw mul-one (down_pos e) in
    let less : n < 2 ^ 52 * d = below_limit n d (ltb-true (n * 1) (1 * 2 ^ 52 * d) l) in
    let most : n * 2 < 2 ^ 53 * (d * 1) = twice_limit n d less in
    let c = cut (mul binary64 (fin false m e) two) (n * 2) (d * 1) pos_d (twice m e (written s m e f) less) most in
    let h = n * 2 / (d * 1) in
    let small : h < 2 ^ 53 = (div-lt_iff_lt-mul pos_d).1 most in
    let q = (h + 1) / 2 in
    record {
      above = c.above;
      below = c.below;
      small = rw c.part small;
      whole =
          rw c.part
          (times_one (round binary64 false q 1) s q (round_whole binary64 false q (half_limit h small))
          ∙ ap (λ (k : ℕ). round binary64 s k 1) (half_of_more n d (down_pos e)));
    }
  where
    half_limit : (h : ℕ) → h < 2 ^ 53 → (h + 1) / 2 ≤ 2 ^ 53
    half_limit h l = omega arith

    below_limit : (n d : ℕ) → n * 1 < 1 * 2 ^ 52 * d → n < 2 ^ 52 * d
    below_limit n d h = omega arith

    twice_limit : (n d : ℕ) → n < 2 ^ 52 * d → n * 2 < 2 ^ 53 * (d * 1)
    twice_limit n d h = omega arith

-- from 2 ^ 52 on a number is whole already
no_fraction : (m p : ℕ) → m < 2 ^ 53 → 0 < p → 1 * 2 ^ 52 * (2 * p) ≤ m * 1 * 1 → ⊥
no_fraction m p h l g = omega arith

pub whole_already : (x : Float) → T (fits binary64 x) → lt (magnitude_of x) (fin false 1 (pos 52)) ≡ false → x
    ≡ round_to_whole x
unfolding lt magnitude_of round_to_whole
whole_already nan f l = refl
whole_already (inf s) f l = refl
whole_already (fin s m (pos k)) f l =
    let w = written s m (pos k) f in
    let n = m * 2 ^ k in
    let moved : m * 2 ^ (k + 1074) ≡ n * 2 ^ 1074 = rw (pow-add, mul_assoc) in
    let back : HasValue (round binary64 s n 1) s n 1 =
    round_exact binary64 s n 1 m (k + 1074) (zero-lt-suc 0) w.digits (rw moved (shl_lt 1024 1074 w.size))
    (rw (mul-one, moved)) in
    whole_unique binary64 (fin s m (pos k)) (round binary64 s n 1) s n f (round-fits binary64 s n 1) (refl, refl) back
    ∙ ap (λ (q : ℕ). round binary64 s q 1) (halved n)
  where
    halved : (n : ℕ) → n ≡ (2 * n + 1) / 2
    halved n = omega arith
whole_already (fin s m (negsuc k)) f l =
    absurd (no_fraction m (2 ^ k) (written s m (negsuc k) f).digits (pow_pos k)
    (rw (pow-succ' 2 k) at (ltb-false (m * 1 * 1) (1 * 2 ^ 52 * 2 ^ suc k) l)))
