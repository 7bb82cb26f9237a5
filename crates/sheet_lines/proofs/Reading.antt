-- What reading a field's columns goes by. Assumes nothing.
use mathlib.Core.Path.{◌≡◌, refl}
use mathlib.Core.Bool.{Bool, true, false, cond, ◌&&◌}
use mathlib.Core.List.{List, [], ◌∷◌}
use Prim.Native.Nat.{ℕ, suc, ◌+◌, ◌-◌, ◌*◌, ◌^◌, ◌<◌, ◌≤◌}
use native.Mathlib.Nat.{add-zero, zero-add, pow-succ', pow-le-pow_right}
use native.Mathlib.Numerals.{add-one}
use native.Mathlib.Omega.{arith}
use borrow.Author.Tests.{eq-eqb, ne_eqb, leb-true}
use lib.Dec.{leb, eqb}
use lib.ListN.{length, take, drop, get_or}
use lib.Seq.{take_all}
use Rattle.std.proofs.Common.{Some, None}
use Rattle.sheet_lines.specs.Read.{unpadded, number_after, number, positive, negative, signed}

-- no digit is no number, and some digits are read from the first
pub no_digits : (digits : List ℕ) → length digits ≡ 0 → number digits ≡ None
unfolding number
no_digits [] e = refl
no_digits (b ∷ rest) e = absurd (omega arith)

pub some_digits : (digits : List ℕ) → (length digits ≡ 0 → ⊥) → number digits ≡ number_after 0 digits
unfolding number
some_digits [] h = absurd (h refl)
some_digits (b ∷ rest) h = refl

-- so many digits say no more than 18 of them can
pub few_digits : (k : ℕ) → k ≤ 18 → 10 ^ k ≤ 1000000000000000000
few_digits k h = pow-le-pow_right {n = 10} (omega arith) h

-- one digit more
digit_more : (v d k : ℕ) → v < 10 ^ k → d < 10 → 10 * v + d < 10 ^ (k + 1)
digit_more v d k h l = rw (add-one, pow-succ' 10 k) (omega arith)

-- what is left without the blanks is no longer
pub unpadded_short : (columns : List ℕ) → length (unpadded columns) ≤ length columns
unpadded_short [] = omega arith
unpadded_short (b ∷ rest) = go (eqb b 32) (unpadded_short rest)
  where
    go : (t : Bool) → length (unpadded rest) ≤ length rest
        → length (cond t (unpadded rest) (b ∷ rest)) ≤ suc (length rest)
    go true h = omega arith
    go false h = omega arith

all_rest : (b : ℕ) (rest : List ℕ) → take (length (b ∷ rest) - 1) rest ≡ rest
all_rest b rest =
    let same : length (b ∷ rest) - 1 ≡ length rest = omega arith in
    rw (same, take_all (length rest) rest (omega arith))

-- the columns after the first
pub rest_short : (columns : List ℕ) (k : ℕ) → length columns ≤ k
    → length (take (length columns - 1) (drop 1 columns)) ≤ k
rest_short [] k h = h
rest_short (b ∷ rest) k h = rw (all_rest b rest) (omega arith)

-- a minus in front, or none
pub minus_first : (columns : List ℕ) → 0 < length columns → get_or columns 0 0 ≡ 45
    → signed columns ≡ negative (number (take (length columns - 1) (drop 1 columns)))
unfolding signed
minus_first [] h e = absurd (omega arith)
minus_first (b ∷ rest) h e = rw (eq-eqb _ _ e, all_rest b rest)

pub plain_first : (columns : List ℕ) → (0 < length columns → get_or columns 0 0 ≡ 45 → ⊥)
    → signed columns ≡ positive (number columns)
unfolding signed number
plain_first [] h = refl
plain_first (b ∷ rest) h = rw (ne_eqb _ _ (h (omega arith)))

-- so many more digits after v make a number below so many powers of ten
number_below : (digits : List ℕ) (v k w : ℕ) → v < 10 ^ k → number_after v digits ≡ Some w
    → w < 10 ^ (k + length digits)
number_below [] v k w h e = let same : v ≡ w = cc in rw (← same, add-zero) h
number_below (b ∷ rest) v k w h e =
    let longer : k + suc (length rest) ≡ k + 1 + length rest = omega arith in
    rw longer
    (go (leb 48 b) (leb b 57) (leb-true b 57)
    (λ l f. number_below rest _ (k + 1) w (digit_more v (b - 48) k h (omega arith)) f) e)
  where
    go : {A : Type 0} (s t : Bool) → (t ≡ true → b ≤ 57)
        → (b ≤ 57 → number_after (10 * v + (b - 48)) rest ≡ Some w → A)
        → cond (s && t) (number_after (10 * v + (b - 48)) rest) None ≡ Some w → A
    go true true l next f = next (l refl) f
    go true false l next f = let z : ◌≡◌ {A = ℕ} 0 1 = cc in absurd (omega arith)
    go false t l next f = let z : ◌≡◌ {A = ℕ} 0 1 = cc in absurd (omega arith)

pub number_few : (digits : List ℕ) (v : ℕ) → length digits ≤ 12 → number digits ≡ Some v → v < 10 ^ 12
unfolding number
number_few [] v m e = let z : ◌≡◌ {A = ℕ} 0 1 = cc in absurd (omega arith)
number_few (b ∷ rest) v m e =
    let below = number_below (b ∷ rest) 0 0 v (omega arith) e in
    let most = pow-le-pow_right {n = 10} (omega arith) m in
    omega (arith, rw zero-add at below, most)
