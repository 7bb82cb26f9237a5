-- Laws of signs: the sign of a number, of what is rounded and of a difference, which are numbers. Assumes nothing.
use Rattle.std.proofs.Common.{◌≡◌, ℕ, zero, suc, ◌+◌, ◌-◌, ◌*◌, ◌^◌, ◌<◌, Bool, true, false, cond, not, ◌&&◌, T, ltb, ℤ, pos, sym, refl, ap, ◌∙◌, true≢false, lt_of_lt_of_le, le-add_right, le_of_lt, mul-pos, arith, ltb-true, le-ltb, lt-ltb}
use mathlib.Core.Bool.{beq}
use lib.Ieee.{Float, nan, inf, fin, Format, binary64, prec, emax, low}
use lib.Ieee.{up, down, odd, units, round, neg, sum, sub, lt, is_nan}
use lib.Ieee.Fits.{round_is, down_pos}
use lib.Ieee.Scale.{finite}
use Rattle.rounding.specs.Leaves.{one, plus_one, minus_one, negative, magnitude_of, sign_of}

-- the sign of a number
pub sign_is : (x : Float) → is_nan x ≡ false → sign_of x ≡ one (negative x)
unfolding sign_of is_nan negative
sign_is nan n = absurd (true≢false n)
sign_is (inf s) n = refl
sign_is (fin s m e) n = refl

pub sign_of_nan : (x : Float) → is_nan x ≡ true → sign_of x ≡ x
unfolding sign_of is_nan
sign_of_nan nan n = refl
sign_of_nan (inf s) n = absurd (true≢false (sym n))
sign_of_nan (fin s m e) n = absurd (true≢false (sym n))

-- a finite number is no NaN
pub finite_number : (x : Float) → T (finite x) → is_nan x ≡ false
unfolding is_nan
finite_number nan f = absurd f
finite_number (inf s) f = absurd f
finite_number (fin s m e) f = refl

-- ---- what is rounded has its own sign, and is a number

-- the size of what is rounded: beyond the format's numbers, or digits at a place
data Size : Type 0 where
  infinite : Size
  digits : ℕ → ℤ → Size

abbrev of_size : Bool → Size → Float
of_size s infinite = inf s
of_size s (digits m e) = fin s m e

odd_size : (d q k l : ℕ) → (z : Size) × ((s : Bool) → odd d s q k l ≡ of_size s z)
unfolding odd
odd_size d zero k l = (digits 0 (pos 0), λ s. refl)
odd_size d (suc q) k l = (digits _ _, λ s. refl)

units_size : (f : Format) (q k : ℕ) → (z : Size) × ((s : Bool) → units f s q k ≡ of_size s z)
unfolding units
units_size f q k = go (ltb (q * 2 ^ k) (2 ^ (low f + suc (emax f))))
  where
    go : (t : Bool) → (z : Size) × ((s : Bool) → cond t (odd (suc (prec f)) s q k (low f)) (inf s) ≡ of_size s z)
    go true = odd_size (suc (prec f)) q k (low f)
    go false = (infinite, λ s. refl)

-- a fraction is rounded to the same size with either sign
round_size : (f : Format) (a c : ℕ) → (z : Size) × ((s : Bool) → round f s a c ≡ of_size s z)
round_size f a c = let (z, e) = units_size f _ _ in (z, λ s. round_is f s a c ∙ e s)

pub round_plain : (s : Bool) (a c : ℕ) → (negative (round binary64 s a c) ≡ s) × (is_nan (round binary64 s a c) ≡ false)
unfolding negative is_nan
round_plain s a c = let (z, e) = round_size binary64 a c in rw (e s) (go z)
  where
    go : (z : Size) → (negative (of_size s z) ≡ s) × (is_nan (of_size s z) ≡ false)
    go infinite = (refl, refl)
    go (digits m e) = (refl, refl)

-- with the other sign it is the opposite
pub round_turned : (f : Format) (a c : ℕ) → round f true a c ≡ neg (round f false a c)
unfolding neg
round_turned f a c = let (z, e) = round_size f a c in rw (e true, e false) (go z)
  where
    go : (z : Size) → of_size true z ≡ neg (of_size false z)
    go infinite = refl
    go (digits m e) = refl

-- and without its sign it is what is rounded without one
pub round_magnitude : (f : Format) (s : Bool) (a c : ℕ) → magnitude_of (round f s a c) ≡ round f false a c
unfolding magnitude_of
round_magnitude f s a c = let (z, e) = round_size f a c in rw (e s, e false) (go z)
  where
    go : (z : Size) → magnitude_of (of_size s z) ≡ of_size false z
    go infinite = refl
    go (digits m e) = refl

sum_number : (s : Bool) (a : ℕ) (t : Bool) (b c : ℕ) → is_nan (sum binary64 s a t b c) ≡ false
unfolding sum
sum_number s a t b c = go (beq s t) (ltb a b)
  where
    go : (p q : Bool)
        → is_nan (cond p (round binary64 s (a + b) c)
        (cond q (round binary64 t (b - a) c) (round binary64 (s && ltb b a) (a - b) c)))
        ≡ false
    go true q = (round_plain s (a + b) c).1
    go false true = (round_plain t (b - a) c).1
    go false false = (round_plain (s && ltb b a) (a - b) c).1

-- and so is the difference of two numbers
pub difference_number : (x y : Float) → T (finite x) → T (finite y) → is_nan (sub binary64 x y) ≡ false
unfolding sub is_nan
difference_number nan y p q = absurd p
difference_number (inf s) y p q = absurd p
difference_number (fin s m e) nan p q = absurd q
difference_number (fin s m e) (inf t) p q = absurd q
difference_number (fin s m e) (fin t n d) p q = sum_number s (m * up e * down d) (not t) (n * up d * down e)
    (down e * down d)

-- ---- the sign of a difference

-- what is rounded keeps its sign
pub sign_round : (s : Bool) (a b : ℕ) → sign_of (round binary64 s a b) ≡ one s
sign_round s a b = let (sign, number) = round_plain s a b in sign_is _ number ∙ ap one sign

-- a / c - b / c, and b / c - a / c
sign_less : (a b c : ℕ) → sign_of (sum binary64 false a true b c) ≡ cond (ltb a b) minus_one plus_one
unfolding sum
sign_less a b c = go (ltb a b)
  where
    go : (t : Bool) → sign_of (cond t (round binary64 true (b - a) c) (round binary64 false (a - b) c))
        ≡ cond t minus_one plus_one
    go true = sign_round true (b - a) c
    go false = sign_round false (a - b) c

sign_more : (a b c : ℕ) → sign_of (sum binary64 true a false b c) ≡ cond (ltb b a) minus_one plus_one
unfolding sum
sign_more a b c = go (ltb a b) (ltb b a) (λ l. le-ltb b a (le_of_lt (ltb-true a b l)))
  where
    go : (t u : Bool) → (t ≡ true → u ≡ false)
        → sign_of (cond t (round binary64 false (b - a) c) (round binary64 u (a - b) c)) ≡ cond u minus_one plus_one
    go true u h = rw (h refl) (sign_round false (b - a) c)
    go false true h = sign_round true (a - b) c
    go false false h = sign_round false (a - b) c

-- The sign of x - y, for numbers x and y: -1 where x is below y, else +1. Only -0.0 less +0.0 is left out, which has
-- the sign -1.
pub sign_difference : (x y : Float) → T (finite x) → T (finite y)
    → (negative x ≡ true → lt x (fin false 0 (pos 0)) ≡ true)
    → sign_of (sub binary64 x y) ≡ cond (lt x y) minus_one plus_one
unfolding sub lt negative
sign_difference nan y p q h = absurd p
sign_difference (inf s) y p q h = absurd p
sign_difference (fin s m e) nan p q h = absurd q
sign_difference (fin s m e) (inf t) p q h = absurd q
sign_difference (fin false m e) (fin false n d) p q h = sign_less (m * up e * down d) (n * up d * down e)
    (down e * down d)
sign_difference (fin false m e) (fin true n d) p q h = sign_round false (m * up e * down d + n * up d * down e)
    (down e * down d)
sign_difference (fin true m e) (fin false n d) p q h =
    let a = m * up e * down d in
    let b = n * up d * down e in
    let above : 0 < m * up e = cleared (m * up e) (down e) (ltb-true 0 (m * up e * 1 + 0 * 1 * down e) (h refl)) in
    rw (lt-ltb 0 (a + b) (lt_of_lt_of_le (mul-pos above (down_pos d)) (le-add_right a b)))
    (sign_round true (a + b) (down e * down d))
  where
    cleared : (n d : ℕ) → 0 < n * 1 + 0 * 1 * d → 0 < n
    cleared n d l = omega arith
sign_difference (fin true m e) (fin true n d) p q h = sign_more (m * up e * down d) (n * up d * down e)
    (down e * down d)
