-- 0.0 - x is x with the other sign, and +0.0 for both zeros; so the larger of it and x is the magnitude. Assumes
-- nothing.
use Rattle.std.proofs.Common.{◌≡◌, ℕ, zero, suc, ◌+◌, ◌-◌, ◌*◌, ◌/◌, ◌^◌, ◌<◌, ◌≤◌, Bool, true, false, cond, not, T, ℤ, pos, negsuc, sym, refl, ap, ◌∙◌, lt_of_lt_of_le, zero-lt-suc, mul_assoc, mul-pos, one-mul, mul-one, mul_right_comm, arith, eqb→eq, pow_pos, pow_mono, pow-add, shl_lt, lt-ltb}
use native.Mathlib.Nat.{pow-succ'}
use lib.Ieee.{Float, nan, inf, fin, binary64, up, down, size, round, neg, add, sub, sum, lt, fits, of_bits, to_bits}
use lib.Ieee.Bits.{of_bits-to_bits}
use lib.Ieee.Exact.{HasValue, round_exact}
use lib.Ieee.Fits.{up_pos, down_pos, round-fits}
use lib.Ieee.Nearest.{div_same}
use Rattle.rounding.specs.Leaves.{magnitude_of}
use Rattle.rounding.proofs.ToWhole.{written, pow_le_back}

-- ---- a number rounds to itself

rest : (k : ℕ) → suc k ≤ 1074 → 1073 - k + suc k ≡ 1074
rest k h = omega arith

few : (k : ℕ) → 53 + (1073 - k) ≤ 2098
few k = omega arith

own_value : (s : Bool) (m : ℕ) (e : ℤ) → T (fits binary64 (fin s m e))
    → HasValue (round binary64 s (m * up e) (down e)) s (m * up e) (down e)
own_value s m (pos k) f =
    let w = written s m (pos k) f in
    let moved : m * 2 ^ (k + 1074) ≡ m * 2 ^ k * 2 ^ 1074 = rw (pow-add, mul_assoc) in
    round_exact binary64 s (m * 2 ^ k) 1 m (k + 1074) (zero-lt-suc 0) w.digits
    (rw moved (shl_lt 1024 1074 w.size)) (rw (mul-one, moved))
own_value s m (negsuc k) f =
    let w = written s m (negsuc k) f in
    let whole : 2 ^ (1073 - k) * 2 ^ suc k ≡ 2 ^ 1074 = sym (pow-add 2 (1073 - k) (suc k))
    ∙ ap (λ (j : ℕ). 2 ^ j) (rest k (pow_le_back (suc k) 1074 w.places)) in
    round_exact binary64 s (m * 1) (2 ^ suc k) m (1073 - k) (pow_pos (suc k)) w.digits
    (lt_of_lt_of_le (shl_lt 53 (1073 - k) w.digits) (pow_mono (few k)))
    (rw (mul-one, mul_assoc m (2 ^ (1073 - k)) (2 ^ suc k), whole))

-- a pattern, from the sign and the value in units
packed : Bool → ℕ → ℕ
packed s n = let k = size n - 53 in cond s (2 ^ 63) 0 + k * 2 ^ 52 + n / 2 ^ k

packs : (s : Bool) (m : ℕ) (e : ℤ) → to_bits binary64 (fin s m e) ≡ packed s (m * up e * 2 ^ 1074 / down e)
unfolding to_bits packed
packs s m e = refl

same : (y : Float) (s : Bool) (m : ℕ) (e : ℤ) → T (fits binary64 y) → T (fits binary64 (fin s m e))
    → HasValue y s (m * up e) (down e) → y ≡ fin s m e
same nan s m e g f v = absurd v
same (inf t) s m e g f v = absurd v
same (fin t n d) s m e g f v =
    let scaled : n * up d * 2 ^ 1074 * down e ≡ m * up e * 2 ^ 1074 * down d =
    rw (mul_right_comm (n * up d), v.1, mul_right_comm (m * up e)) in
    let units = div_same (n * up d * 2 ^ 1074) (down d) (m * up e * 2 ^ 1074) (down e) (down_pos d) (down_pos e)
    scaled in
    let bits : to_bits binary64 (fin t n d) ≡ to_bits binary64 (fin s m e) =
    rw (packs t n d, packs s m e, v.0, units) in
    sym (of_bits-to_bits binary64 (fin t n d) g) ∙ ap (of_bits binary64) bits ∙ of_bits-to_bits binary64 (fin s m e) f

pub own : (s : Bool) (m : ℕ) (e : ℤ) → T (fits binary64 (fin s m e)) → round binary64 s (m * up e) (down e) ≡ fin s m e
own s m e f = same _ s m e (round-fits binary64 s (m * up e) (down e)) f (own_value s m e f)

-- ---- the other sign

abbrev plus_zero : Float
plus_zero = fin false 0 (pos 0)

-- fits knows no sign
turned : (s t : Bool) (m : ℕ) (e : ℤ) → T (fits binary64 (fin s (suc m) e)) → T (fits binary64 (fin t (suc m) e))
unfolding fits
turned s t m e f = f

opposite : (s : Bool) (m : ℕ) (e : ℤ) → T (fits binary64 (fin s (suc m) e)) → sub binary64 plus_zero (fin s (suc m) e)
    ≡ fin (not s) (suc m) e
unfolding sub add neg sum
opposite false m e f =
    let n = suc m * up e in
    let d = down e in
    let some : 0 < n = mul-pos (zero-lt-suc m) (up_pos e) in
    let less : 0 * 1 * d < n * 1 = omega arith in
    let num : n * 1 - 0 * 1 * d ≡ n = omega arith in
    rw (lt-ltb (0 * 1 * d) (n * 1) less, num, one-mul d) (own true (suc m) e (turned false true m e f))
opposite true m e f =
    let n = suc m * up e in
    let d = down e in
    let num : 0 * 1 * d + n * 1 ≡ n = omega arith in
    rw (num, one-mul d) (own false (suc m) e (turned true false m e f))

flat : (e : ℤ) → up e * down e ≡ 1 → e ≡ pos 0
flat (pos zero) h = refl
flat (pos (suc k)) h = absurd (two_up (2 ^ k) (sym (rw (mul-one, pow-succ') at h)))
  where
    two_up : (p : ℕ) → 1 ≡ 2 * p → ⊥
    two_up p e = omega arith
flat (negsuc k) h = absurd (two_up (2 ^ k) (sym (rw (one-mul, pow-succ') at h)))
  where
    two_up : (p : ℕ) → 1 ≡ 2 * p → ⊥
    two_up p e = omega arith

zero_exponent : (s : Bool) (e : ℤ) → T (fits binary64 (fin s zero e)) → e ≡ pos 0
unfolding fits
zero_exponent s e f = flat e (eqb→eq (up e * down e) 1 f)

positive_sum : (a b : ℕ) → 0 < a → 0 < a + b
positive_sum a b h = omega arith

-- the larger of 0.0 - x and x, the first of equals
pub larger_of_both : (x : Float) → T (fits binary64 x)
    → cond (lt (sub binary64 plus_zero x) x) x (sub binary64 plus_zero x) ≡ magnitude_of x
unfolding magnitude_of lt
larger_of_both nan f = unfold sub add neg in refl
larger_of_both (inf false) f = unfold sub add neg in refl
larger_of_both (inf true) f = unfold sub add neg in refl
larger_of_both (fin false zero e) f = rw (zero_exponent false e f) (unfold sub add neg sum round in refl)
larger_of_both (fin true zero e) f = rw (zero_exponent true e f) (unfold sub add neg sum round in refl)
larger_of_both (fin false (suc m) e) f =
    let n = suc m * up e * down e in
    let some : 0 < n = mul-pos (mul-pos (zero-lt-suc m) (up_pos e)) (down_pos e) in
    rw (opposite false m e f, lt-ltb 0 (n + n) (positive_sum n n some))
larger_of_both (fin true (suc m) e) f = rw (opposite true m e f)
