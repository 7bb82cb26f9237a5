-- Why the quick test is right: a number whose bits are at most those of 2 ^ k lies from 0.0 to 2 ^ k. Assumes nothing.
use Rattle.std.proofs.Common.{◌≡◌, ℕ, zero, suc, ◌+◌, ◌*◌, ◌/◌, ◌%◌, ◌^◌, ◌<◌, ◌≤◌, Bool, true, false, cond, not, T, ltb, List, length, get_or, pos, sym, refl, ◌∙◌, subst, true≢false, le_trans, le_of_eq, le_of_lt, mod-lt, mod-eq_of_lt, mul-pos, one-mul, div-add-mod', mul-one, arith, pow_pos, pow_mono, pow-add, shl_lt, ltb-false, ltb-true, lt-ltb, ne_eqb}
use borrow.Author.Tests.{lt-leb}
use lib.Bits.{bit_or, or_add_and, and_le_l, and_le_r}
use lib.Ieee.{Float, nan, inf, fin, binary64, up, down, lt, eq, le, fits, is_nan, of_fields, of_bits, to_bits}
use lib.Ieee.Bits.{of_bits-to_bits, is_true}
use lib.Ieee.Exact.{HasValue, odd_sign}
use lib.Ieee.Fits.{down_pos}
use lib.Ieee.Order.{le_of_values}
use Rattle.values.specs.Accepted.{within, accepted}
use Rattle.values.specs.inner.Part.{Passing}
use Rattle.values.proofs.Part.{each_passing}
use Rattle.values.specs.inner.Quick.{EachUpTo, UpTo, capped, bits_from, BitsOf}
use Rattle.cells.specs.Line.{Line, line}

-- ---- gathered bit by bit

pub no_bits : {f : Line} {a k : ℕ} → k ≡ 0 → BitsOf f a k 0
unfolding bits_from
no_bits e = record { is = rw e }

pub more_bits : {f : Line} {a b k : ℕ} {x : Float} (i l : ℕ) → BitsOf f a k b → x ≡ capped (f i)
    → (a + k ≡ i) × (suc k ≡ l) → BitsOf f a l (bit_or b (to_bits binary64 x))
unfolding bits_from
more_bits i l g c (p, q) = record { is = rw (g.is, c, ← p, ← q) }

-- so none of them has larger ones
each_below : (f : Line) (a k i : ℕ) → i < k → to_bits binary64 (capped (f (a + i))) ≤ bits_from f a k
unfolding bits_from
each_below f a zero i h = absurd (omega arith)
each_below f a (suc k) i h = go (each_below f a k i) (ltb i k) refl
  where
    old : ℕ
    old = bits_from f a k

    own : ℕ → ℕ
    own j = to_bits binary64 (capped (f (a + j)))

    go : (i < k → own i ≤ old) → (t : Bool) → ltb i k ≡ t → own i ≤ bit_or old (own k)
    go below true e =
        let first : own i ≤ old = below (ltb-true _ _ e) in
        omega (arith, or_add_and old (own k), and_le_r old (own k))
    go below false e =
        let g : k ≤ i = ltb-false _ _ e in
        let here : i ≡ k = omega arith in
        rw here (omega (arith, or_add_and old (own k), and_le_l old (own k)))

-- only a number is below another
pub capped_number : (x : Float) → T (not (is_nan (capped x)))
unfolding capped lt is_nan
capped_number nan = tt
capped_number (inf true) = tt
capped_number (inf false) = tt
capped_number (fin s m e) = go (lt (fin s m e) (fin false 1 (pos 31)))
  where
    go : (t : Bool) → T (not (is_nan (cond t (fin s m e) (fin false 1 (pos 31)))))
    go true = tt
    go false = tt

-- ---- a number by its bits

-- the bits of 2 ^ k
abbrev pub power_bits : ℕ → ℕ
power_bits k = (1023 + k) * 2 ^ 52

exponents : (x k : ℕ) → suc x < 1023 + k → 53 + x ≤ k + 1074
exponents x k h = omega arith

-- with the leading digit, the digits t and the exponent's field x + 1
reaches : (k x t : ℕ) → t < 2 ^ 52 → suc x * 2 ^ 52 + t ≤ power_bits k → (2 ^ 52 + t) * 2 ^ x ≤ 2 ^ (k + 1074)
reaches k x t l h = go (ltb (suc x) (1023 + k)) refl
  where
    go : (b : Bool) → ltb (suc x) (1023 + k) ≡ b → (2 ^ 52 + t) * 2 ^ x ≤ 2 ^ (k + 1074)
    go true e = le_trans (le_of_lt (shl_lt {a = 2 ^ 52 + t} 53 x (omega arith)))
        (pow_mono (exponents x k (ltb-true _ _ e)))
    go false e =
        let g : 1023 + k ≤ suc x = ltb-false _ _ e in
        let none : t ≡ 0 = omega arith in
        let same : k + 1074 ≡ 52 + x = omega arith in
        rw (none, same, pow-add 2 52 x) (le_of_eq refl)

-- with no leading digit
small : (k t : ℕ) → t < 2 ^ 52 → t * 2 ^ 0 ≤ 2 ^ (k + 1074)
small k t l = rw (mul-one t) (le_trans (le_of_lt l) (pow_mono (more k)))
  where
    more : (k : ℕ) → 52 ≤ k + 1074
    more k = omega arith

of_fields_lem : (k x t : ℕ) → k ≤ 30 → t < 2 ^ 52 → x * 2 ^ 52 + t ≤ power_bits k
    → UpTo k (of_fields binary64 false x t)
unfolding of_fields
of_fields_lem k zero t n l h = record { count = t * 2 ^ 0; value = odd_sign 53 false t 0 1074; at_most = small k t l }
of_fields_lem k (suc x) t n l h =
    rw (ne_eqb (suc x) 2047 (λ e. omega arith))
    (record {
      count = (2 ^ 52 + t) * 2 ^ x;
      value = odd_sign 53 false (2 ^ 52 + t) x 1074;
      at_most = reaches k x t l h;
    })

by_bits : (k : ℕ) (x : Float) → k ≤ 30 → T (fits binary64 x) → to_bits binary64 x ≤ power_bits k → UpTo k x
unfolding of_bits
by_bits k x n f h =
    let b = to_bits binary64 x in
    let l : b < 2 ^ 63 = omega arith in
    let same : of_bits binary64 b ≡ of_fields binary64 false (b / 2 ^ 52) (b % 2 ^ 52) = rw
    (lt-leb (2 ^ 63) b l, mod-eq_of_lt l) in
    subst (UpTo k) (sym same ∙ of_bits-to_bits binary64 x f)
    (of_fields_lem k (b / 2 ^ 52) (b % 2 ^ 52) n (mod-lt b (pow_pos 52)) (rw (div-add-mod' b (2 ^ 52)) h))

-- ---- what such a number passes

low_end : (k : ℕ) (x : Float) (n : ℕ) → HasValue x false n (2 ^ 1074) → le (fin true 1 (pos k)) x ≡ true
unfolding le lt eq
low_end k nan n v = absurd v
low_end k (inf s) n v = absurd v
low_end k (fin true m e) n v = absurd (true≢false v.0)
low_end k (fin false m e) n v = rw (lt-ltb 0 (1 * 2 ^ k * down e + m * up e * 1)
    (some (2 ^ k) (down e) (m * up e * 1) (mul-pos (pow_pos k) (down_pos e))))
  where
    some : (p d a : ℕ) → 0 < p * d → 0 < 1 * p * d + a
    some p d a h = rw (one-mul p) (omega arith)

pub up_to_end : (k : ℕ) (x : Float) → UpTo k x → le x (fin false 1 (pos k)) ≡ true
up_to_end k x u =
    is_true (le x (fin false 1 (pos k)))
    (le_of_values x (fin false 1 (pos k)) u.count (2 ^ 1074) (2 ^ k) 1 (pow_pos 1074) (pow_pos 0) u.value
    (refl, rw (one-mul (2 ^ k)))
    (rw (mul-one u.count, ← pow-add 2 k 1074) u.at_most))

up_to_within : (k : ℕ) (x : Float) → UpTo k x → within k x ≡ true
up_to_within k x u = rw (low_end k x u.count u.value, up_to_end k x u)

limit : to_bits binary64 (fin false 1 (pos 31)) ≡ power_bits 31
unfolding to_bits
limit = refl

-- bits below those of 2 ^ 31 are the number's own
own_bits : (k : ℕ) (x : Float) → k ≤ 30 → to_bits binary64 (capped x) ≤ power_bits k → to_bits binary64 x ≤ power_bits k
unfolding capped
own_bits k x n h = go (lt x (fin false 1 (pos 31))) h
  where
    go : (t : Bool) → to_bits binary64 (cond t x (fin false 1 (pos 31))) ≤ power_bits k
        → to_bits binary64 x ≤ power_bits k
    go true h = h
    go false h = absurd (omega (arith, limit))

quick : (k : ℕ) (x : Float) → k ≤ 30 → T (fits binary64 x) → to_bits binary64 (capped x) ≤ power_bits k → UpTo k x
quick k x n f h = by_bits k x n f (own_bits k x n h)

quick_accepted : (x : Float) → T (fits binary64 x) → to_bits binary64 (capped x) ≤ power_bits 30 → accepted x ≡ true
unfolding accepted
quick_accepted x f h =
    let own = own_bits 30 x (omega arith) h in
    rw (up_to_within 30 x (quick 30 x (omega arith) f h), ne_eqb (to_bits binary64 x) (2 ^ 63) (λ e. omega arith))

-- ---- numbers by their bits together

-- k numbers from index a on
pub quick_passing : {f : Line} {a k b : ℕ} → BitsOf f a k b → ((i : ℕ) → T (fits binary64 (f i))) → b ≤ power_bits 30
    → Passing accepted f a k true
quick_passing {f} {a} {k} g fit h =
    each_passing k
    (λ i l. quick_accepted (f (a + i)) (fit (a + i)) (le_trans (each_below f a k i l) (rw (← g.is) h)))

-- a whole series
pub quick_up_to : (s : List Float) {b : ℕ} → BitsOf (line s) 0 (length s) b
    → ((i : ℕ) → T (fits binary64 (get_or s i nan)))
    → (k : ℕ) → k ≤ 30 → b ≤ power_bits k → EachUpTo k s
quick_up_to s g fit k n h i l = quick k (get_or s i nan) n (fit i) (le_trans below (rw (← g.is) h))
  where
    below : to_bits binary64 (capped (get_or s i nan)) ≤ bits_from (line s) 0 (length s)
    below =
        let at : 0 + i ≡ i = omega arith in
        rw (← at) (each_below (line s) 0 (length s) i l)
