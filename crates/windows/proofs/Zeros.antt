-- Sums from -0.0 and from +0.0: they are equal once one number that is not -0.0 was added. Assumes nothing.
use mathlib.Core.Path.{◌≡◌, refl, sym, ◌∙◌}
use mathlib.Core.Bool.{Bool, true, false, not, cond, ◌&&◌, false≢true}
use Prim.Native.Nat.{ℕ, zero, suc, ◌+◌, ◌-◌, ◌*◌, ◌/◌, ◌%◌, ◌^◌, ◌<◌, compare}
use native.Mathlib.Nat.{zero-add, add-zero, sub-zero, zero-mul, mul-pos, zero-div}
use native.Mathlib.Omega.{arith}
use lib.IntN.{ℤ, pos}
use lib.Ieee.{Float, nan, inf, fin, binary64, add, mul, lt, to_bits}
use lib.Ieee.{sum, round, units, odd, size, nearest, prec, emax, low, up, down}
use lib.Dec.{eqb, ltb}
use lib.Ieee.Fits.{up_pos}
use borrow.Author.Tests.{lt-ltb}
use Rattle.limits.specs.Limits.{value_power}
use Rattle.values.specs.Accepted.{accepted, within}
use Rattle.cells.specs.Line.{Line, plus_zero, minus_zero}
use Rattle.windows.specs.Window.{sum_from}

-- either zero before x makes the same sum
abbrev pub EitherZero : Float → Type 0
EitherZero x = add binary64 minus_zero x ≡ add binary64 plus_zero x

-- from the first cell on two sums are the same, and so they stay
pub sums_from_either : (f : Line) (a k : ℕ) → 0 < k → EitherZero (f a)
    → sum_from minus_zero f a k ≡ sum_from plus_zero f a k
unfolding sum_from
sums_from_either f a zero h e = absurd (omega arith)
sums_from_either f a (suc zero) h e = rw (add-zero, e)
sums_from_either f a (suc (suc k)) h e = rw (sums_from_either f a (suc k) (omega arith) e)

-- ---- which numbers are no -0.0

pub either_nan : EitherZero nan
unfolding add
either_nan = refl

pub either_inf : (s : Bool) → EitherZero (inf s)
unfolding add
either_inf s = refl

-- zero of either sign and b / c, with the sign t, which is minus only where b is not 0
sum_with : (s t : Bool) (b c : ℕ) → (t ≡ true → 0 < b) → sum binary64 s 0 t b c ≡ round binary64 t b c
unfolding sum
sum_with false false b c h = rw zero-add
sum_with true true b c h = rw zero-add
sum_with true false zero c h = refl
sum_with true false (suc b) c h = rw (lt-ltb 0 (suc b) (omega arith), sub-zero)
sum_with false true zero c h = absurd (omega (arith, h refl))
sum_with false true (suc b) c h = rw (lt-ltb 0 (suc b) (omega arith), sub-zero)

-- a number that is above 0, is +0.0, or is below 0
pub either_fin : (t : Bool) (m : ℕ) (e : ℤ) → (t ≡ true → 0 < m) → EitherZero (fin t m e)
unfolding add
either_fin t m e h =
    let some : t ≡ true → 0 < m * up e * 1 = λ q. mul-pos (mul-pos (h q) (up_pos e)) (omega arith) in
    rw (zero-mul, sum_with true t (m * up e * 1) (1 * down e) some, sum_with false t (m * up e * 1) (1 * down e) some)

-- one with no sign
pub either_plus : (m : ℕ) (e : ℤ) → EitherZero (fin false m e)
either_plus m e = either_fin false m e (λ q. absurd (false≢true q))

-- what is above 0, as IEEE's `<` says
pub either_above : (x : Float) → lt plus_zero x ≡ true → EitherZero x
unfolding lt
either_above nan h = either_nan
either_above (inf s) h = either_inf s
either_above (fin false m e) h = either_plus m e
either_above (fin true m e) h = absurd (false≢true h)

-- what a series may hold
pub either_accepted : (x : Float) → accepted x ≡ true → EitherZero x
unfolding accepted to_bits
either_accepted nan h = either_nan
either_accepted (inf s) h = either_inf s
either_accepted (fin false m e) h = either_plus m e
either_accepted (fin true (suc m) e) h = either_fin true (suc m) e (λ q. omega arith)
either_accepted (fin true zero e) h = absurd (false≢true (and_right (within value_power (fin true zero e)) h))
  where
    zero_bits : not (eqb (to_bits binary64 (fin true zero e)) (2 ^ 63)) ≡ false
    zero_bits = rw (zero-mul (up e), zero-mul (2 ^ 1074), zero-div (down e))

    and_right : (a : Bool) → a && not (eqb (to_bits binary64 (fin true zero e)) (2 ^ 63)) ≡ true → false ≡ true
    and_right true q = sym zero_bits ∙ q
    and_right false q = q

-- a number rounded with no sign
either_units : (q k : ℕ) → EitherZero (units binary64 false q k)
unfolding units odd
either_units q k = go (ltb (q * 2 ^ k) (2 ^ (low binary64 + suc (emax binary64)))) q
  where
    go : (t : Bool) (q : ℕ) → EitherZero (cond t (odd (suc (prec binary64)) false q k (low binary64)) (inf false))
    go false q = either_inf false
    go true zero = either_plus zero (pos zero)
    go true (suc q) = either_plus _ _

pub either_rounded : (a c : ℕ) → EitherZero (round binary64 false a c)
unfolding round
either_rounded a c =
    let n = a * 2 ^ low binary64 in
    let k = size (n / c) - prec binary64 in
    let u = c * 2 ^ k in
    either_units (nearest (n / u) (compare (n % u * 2) u)) k

-- a square
pub either_square : (x : Float) → EitherZero (mul binary64 x x)
unfolding mul
either_square nan = either_nan
either_square (inf s) = either_inf _
either_square (fin false m e) = either_rounded (m * up e * (m * up e)) (down e * down e)
either_square (fin true m e) = either_rounded (m * up e * (m * up e)) (down e * down e)
