-- What a program reads from a float and its bit pattern: whether it is a NaN, the sign, and the number without it.
-- Assumes nothing.
use Rattle.std.proofs.Common.{◌≡◌, ℕ, zero, suc, ◌+◌, ◌*◌, ◌/◌, ◌%◌, ◌^◌, ◌<◌, Bool, true, false, cond, not, T, eqb, leb, sym, refl, ap, ◌∙◌, subst, true≢false, arith, eq-eqb}
use native.Mathlib.Nat.{mod-mod}
use borrow.Author.Tests.{lt-leb}
use lib.Ieee.{Float, nan, inf, fin, binary64, up, down, odd, eq, ne, fits, is_nan, of_fields, of_bits, nan_bits, to_bits}
use lib.Ieee.Bits.{of_bits-to_bits, nan_bits_is}
use Rattle.rounding.specs.Leaves.{negative, magnitude_of}

-- only a NaN differs from itself
pub differs_nan : (x : Float) → ne x x ≡ is_nan x
unfolding ne eq is_nan
differs_nan nan = refl
differs_nan (inf true) = refl
differs_nan (inf false) = refl
differs_nan (fin true m e) = simp (eq-eqb (m * up e * down e) (m * up e * down e) refl)
differs_nan (fin false m e) = simp (eq-eqb (m * up e * down e) (m * up e * down e) refl)

-- ---- the sign in a bit pattern

odd_negative : (d : ℕ) (s : Bool) (q k l : ℕ) → negative (odd d s q k l) ≡ s
unfolding odd negative
odd_negative d s zero k l = refl
odd_negative d s (suc q) k l = refl

fields_negative : (s : Bool) (x t : ℕ) → is_nan (of_fields binary64 s x t) ≡ false → negative (of_fields binary64 s x t)
    ≡ s
unfolding of_fields is_nan negative
fields_negative s zero t n = odd_negative 53 s t 0 1074
fields_negative s (suc x) t n = go (eqb (suc x) 2047) (eqb t 0) n
  where
    v : Float
    v = odd 53 s (2 ^ 52 + t) x 1074

    go : (a b : Bool) → is_nan (cond a (cond b (inf s) nan) v) ≡ false → negative (cond a (cond b (inf s) nan) v) ≡ s
    go true true h = refl
    go true false h = absurd (true≢false h)
    go false b h = odd_negative 53 s (2 ^ 52 + t) x 1074

-- the highest bit is the sign
pub highest_bit : (x : Float) → T (fits binary64 x) → is_nan x ≡ false → leb (2 ^ 63) (to_bits binary64 x) ≡ negative x
unfolding of_bits
highest_bit x f n =
    let b = to_bits binary64 x in
    let same : of_bits binary64 b ≡ x = of_bits-to_bits binary64 x f in
    sym (fields_negative (leb (2 ^ 63) b) (b % 2 ^ 63 / 2 ^ 52) (b % 2 ^ 52) (ap is_nan same ∙ n)) ∙ ap negative same

-- ---- the pattern without its sign

odd_size : (d : ℕ) (s : Bool) (q k l : ℕ) → magnitude_of (odd d s q k l) ≡ odd d false q k l
unfolding odd magnitude_of
odd_size d s zero k l = refl
odd_size d s (suc q) k l = refl

fields_size : (s : Bool) (x t : ℕ) → magnitude_of (of_fields binary64 s x t) ≡ of_fields binary64 false x t
unfolding of_fields magnitude_of
fields_size s zero t = odd_size 53 s t 0 1074
fields_size s (suc x) t = go (eqb (suc x) 2047) (eqb t 0)
  where
    go : (a b : Bool)
        → magnitude_of (cond a (cond b (inf s) nan) (odd 53 s (2 ^ 52 + t) x 1074))
        ≡ cond a (cond b (inf false) nan) (odd 53 false (2 ^ 52 + t) x 1074)
    go true true = refl
    go true false = refl
    go false b = odd_size 53 s (2 ^ 52 + t) x 1074

-- the other bits are the number without its sign
pub other_bits : (x : Float) → T (fits binary64 x)
    → of_bits binary64 (to_bits binary64 x % 2 ^ 63) ≡ magnitude_of x
unfolding of_bits
other_bits x f =
    let b = to_bits binary64 x in
    let same : of_bits binary64 b ≡ x = of_bits-to_bits binary64 x f in
    let less : b % 2 ^ 63 < 2 ^ 63 = omega arith in
    let digits : b % 2 ^ 63 % 2 ^ 52 ≡ b % 2 ^ 52 = omega arith in
    rw (lt-leb (2 ^ 63) (b % 2 ^ 63) less, mod-mod b (2 ^ 63), digits)
    (sym (fields_size (leb (2 ^ 63) b) (b % 2 ^ 63 / 2 ^ 52) (b % 2 ^ 52)) ∙ ap magnitude_of same)

magnitude_number : (x : Float) → is_nan (magnitude_of x) ≡ is_nan x
unfolding magnitude_of is_nan
magnitude_number nan = refl
magnitude_number (inf s) = refl
magnitude_number (fin s m e) = refl

-- and no NaN's, where the number is none
pub other_bits_number : (x : Float) → T (fits binary64 x) → is_nan x ≡ false
    → T (not (nan_bits binary64 (to_bits binary64 x % 2 ^ 63)))
other_bits_number x f n =
    let b = to_bits binary64 x % 2 ^ 63 in
    subst (λ (t : Bool). T (not t))
    (sym (nan_bits_is binary64 b ∙ ap is_nan (other_bits x f) ∙ magnitude_number x ∙ n)) tt
