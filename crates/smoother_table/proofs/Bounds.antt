-- What holds of the recorded numbers at every period from 1 to 512: 0 < a1 < 1, |b1| is at most 2 * a1, and a1 rises.
-- Each is one test over the whole table, which is computed, and a law that reads it at one period. Assumes nothing.
use Rattle.std.proofs.Common.{◌≡◌, ℕ, zero, suc, ◌+◌, ◌<◌, ◌≤◌, Bool, true, ◌&&◌, List, [], ◌∷◌, length, get_or, refl, le_of_suc-le-suc, not-suc-le-zero, add-one}
use lib.Ieee.{Float, nan, binary64, of_bits, mul, lt, eq, le}
use Rattle.values.proofs.All.{and_parts}
use Rattle.values.proofs.Rising.{rising, rising_at}
use Rattle.cells.specs.Line.{plus_zero}
use Rattle.rounding.specs.Leaves.{magnitude_of}
use Rattle.smoother_table.specs.Recorded.{a1_bits, b1_bits}
use Rattle.smoother_table.specs.Coefficients.{power, a1_table, b1_table, a1_of, b1_of}
use Rattle.smoother_table.specs.Bounds.{InBounds, in_bounds}
use Rattle.limits.specs.Limits.{longest_period}

-- the test holds of each pair of entries
every_pair : (Float → Float → Bool) → List Float → List Float → Bool
every_pair test (x ∷ xs) (y ∷ ys) = test x y && every_pair test xs ys
every_pair test [] ys = true
every_pair test (x ∷ xs) [] = true

bounds_computed : every_pair in_bounds a1_table b1_table ≡ true
unfolding a1_table b1_table a1_bits b1_bits every_pair of_bits lt le eq mul magnitude_of
bounds_computed = refl

rise_computed : rising plus_zero a1_table ≡ true
unfolding a1_table a1_bits rising of_bits lt
rise_computed = refl

-- ---- what the tests say of one period

pair_at : (test : Float → Float → Bool) (xs ys : List Float) → every_pair test xs ys ≡ true
    → (k : ℕ) → k < length xs → k < length ys → test (get_or xs k nan) (get_or ys k nan) ≡ true
unfolding every_pair
pair_at test [] ys e k h l = absurd (not-suc-le-zero h)
pair_at test (x ∷ xs) [] e k h l = absurd (not-suc-le-zero l)
pair_at test (x ∷ xs) (y ∷ ys) e zero h l = (and_parts (test x y) (every_pair test xs ys) e).0
pair_at test (x ∷ xs) (y ∷ ys) e (suc k) h l =
    pair_at test xs ys (and_parts (test x y) (every_pair test xs ys) e).1 k (le_of_suc-le-suc h) (le_of_suc-le-suc l)

read : (a1 b1 : Float) → in_bounds a1 b1 ≡ true → InBounds a1 b1
read a1 b1 e =
    let low = lt plus_zero a1 in
    let high = lt a1 (power 0) in
    let most = le (magnitude_of b1) (mul binary64 (power 1) a1) in
    let between = and_parts low high (and_parts (low && high) most e).0 in
    record { above_0 = between.0; below_1 = between.1; double = (and_parts (low && high) most e).1 }

long : (length a1_table ≡ longest_period) × (length b1_table ≡ longest_period)
unfolding a1_table b1_table a1_bits b1_bits
long = (refl, refl)

pub in_bounds_lem : (period : ℕ) → 0 < period → period ≤ longest_period → InBounds (a1_of period) (b1_of period)
unfolding a1_of b1_of
in_bounds_lem zero p h = absurd (not-suc-le-zero p)
in_bounds_lem (suc k) p h =
    read _ _ (pair_at in_bounds a1_table b1_table bounds_computed k (rw long.0 h) (rw long.1 h))

pub a1_rises : (period : ℕ) → 0 < period → period < longest_period → lt (a1_of period) (a1_of (period + 1)) ≡ true
unfolding a1_of
a1_rises zero p h = absurd (not-suc-le-zero p)
a1_rises (suc k) p h = rw add-one (rising_at plus_zero a1_table rise_computed k (rw long.0 h))
