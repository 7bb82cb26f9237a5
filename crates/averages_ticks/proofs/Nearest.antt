-- `to_tick` gives a whole number nearest to a fraction, a half to the even one. Assumes nothing.
use mathlib.Core.Path.{◌≡◌, refl, ap, ◌∙◌}
use mathlib.Core.Bool.{Bool, true, false, not, cond}
use Prim.Native.Nat.{ℕ, suc, ◌+◌, ◌*◌, ◌%◌, ◌<◌, ◌≤◌}
use native.Mathlib.Nat.{le_antisymm, mul-le-mul_right}
use native.Mathlib.Omega.{arith}
use lib.Dec.{T, ltb, ltb→lt, nltb→le}
use lib.IntN.{ℤ, pos, negsuc, nat_abs, ◌*ℤ◌}
use lib.Ieee.Nearest.{closest}
use Rattle.rounding.specs.Nearest.{signed}
use Rattle.rounding_laws.proofs.Integers.{
  above,
  below,
  Near,
  gap,
  parts_times,
  parts_signed,
  parts_same,
  abs_neg,
  abs_gap,
}
use Rattle.rounding_laws.proofs.Error.{closest_near}
use Rattle.averages_ticks.specs.Nearest.{distance, half_away, NearestWhole}
use Rattle.averages_ticks.specs.TickMean.{to_tick}
use Rattle.averages_ticks.proofs.Even.{up, up_near, tie_even}

-- p - m is no nearer to a / n than q, and as near only if it is q, or at a tie
record NoNearer (a n q p m : ℕ) : Type 0 where
  least : gap (q * n) a ≤ gap (p * n) (a + m * n)
  tie : gap (q * n) a ≡ gap (p * n) (a + m * n) → ¬ (p ≡ q + m) → gap (q * n) a * 2 ≡ n

no_nearer : (a n q p m : ℕ) → Near (q * n * 2) (a * 2) n → NoNearer a n q p m
no_nearer a n q p m near =
    go (ltb p r) (ltb r p) (ltb→lt p r) (ltb→lt r p) (nltb→le p r) (nltb→le r p)
  where
    r : ℕ
    r = q + m

    go : (t u : Bool) → (T t → p < r) → (T u → r < p) → (T (not t) → r ≤ p) → (T (not u) → p ≤ r)
        → NoNearer a n q p m
    go true u h i h' i' = let l = mul-le-mul_right n (h tt) in omega arith
    go false true h i h' i' = let l = mul-le-mul_right n (i tt) in omega arith
    go false false h i h' i' =
        let e : p ≡ q + m = le_antisymm (i' tt) (h' tt) in
        let f = ap (λ (z : ℕ). z * n) e in
        omega arith

-- what y has of the sign s, and of the other
abbrev own : Bool → ℤ → ℕ
own s y = cond s (below y) (above y)

abbrev other : Bool → ℤ → ℕ
other s y = cond s (above y) (below y)

own_signed : (s : Bool) (q : ℕ) → (own s (signed s q) ≡ q) × (other s (signed s q) ≡ 0)
own_signed true q = let p = parts_signed true q in (p.1, p.0)
own_signed false q = (refl, refl)

own_same : (s : Bool) (y : ℤ) (q : ℕ) → own s y ≡ q + other s y → signed s q ≡ y
own_same true y q e = let p = parts_signed true q in parts_same (signed true q) y (rw (p.0, p.1) (omega arith))
own_same false y q e = parts_same (pos q) y (omega arith)

abs_signed : (s : Bool) (q : ℕ) → nat_abs (signed s q) ≡ q
abs_signed true q = abs_neg (pos q)
abs_signed false q = refl

module _ (s : Bool) (a n : ℕ) where
  -- the distance in natural numbers
  distance_is : (y : ℤ) → distance (signed s a) n y ≡ gap (own s y * n) (a + other s y * n)
  distance_is y =
      let p = parts_times y n in
      let q = parts_signed s a in
      abs_gap (y *ℤ pos n) (signed s a) ∙ rw (p.0, p.1, q.0, q.1) (turned s)
    where
      turned : (t : Bool)
          → gap (above y * n + cond t a 0) (cond t 0 a + below y * n) ≡ gap (own t y * n) (a + other t y * n)
      turned true = omega arith
      turned false = omega arith

  distance_own : (q : ℕ) → distance (signed s a) n (signed s q) ≡ gap (q * n) a
  distance_own q = let p = own_signed s q in distance_is (signed s q) ∙ rw (p.0, p.1) (omega arith)

  -- a number within a half
  least_of : (q : ℕ) → Near (q * n * 2) (a * 2) n → (y : ℤ)
      → distance (signed s a) n (signed s q) ≤ distance (signed s a) n y
  least_of q near y = rw (distance_own q, distance_is y) (no_nearer a n q (own s y) (other s y) near).least

  module _ (N : 0 < n) where
    even_of : (y : ℤ) → distance (signed s a) n (signed s (closest a n)) ≡ distance (signed s a) n y
        → ¬ (signed s (closest a n) ≡ y) → nat_abs (signed s (closest a n)) % 2 ≡ 0
    even_of y e d =
        let q = closest a n in
        let b = no_nearer a n q (own s y) (other s y) (closest_near a n N) in
        let tie = b.tie (rw (distance_own q, distance_is y) at e) (λ h. d (own_same s y q h)) in
        rw (abs_signed s q) (tie_even a n N tie)

    -- a half up is as near
    as_near : distance (signed s a) n (signed s (closest a n)) ≡ distance (signed s a) n (signed s (up a n))
    as_near =
        le_antisymm (least_of (closest a n) (closest_near a n N) (signed s (up a n)))
        (least_of (up a n) (up_near a n N) (signed s (closest a n)))

    nearest : (z : ℤ) → z ≡ signed s a → half_away z n ≡ signed s (up a n) → NearestWhole z n (signed s (closest a n))
    nearest z e h = record {
      least = rw e (least_of (closest a n) (closest_near a n N));
      even = rw e even_of;
      alone = λ only. rw h (only (signed s (up a n)) (rw e as_near));
    }

pub tick_nearest : (z : ℤ) (n : ℕ) → 0 < n → NearestWhole z n (to_tick z n)
unfolding to_tick
tick_nearest (pos a) n N = nearest false a n N (pos a) refl refl
tick_nearest (negsuc a) n N = nearest true (suc a) n N (negsuc a) refl refl
