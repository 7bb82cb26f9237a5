-- Squares of whole numbers: `root n` is the whole root of n, and a number has one closest whole root. Assumes nothing.
use mathlib.Core.Path.{◌≡◌, ap, ◌∙◌, subst}
use mathlib.Core.Bool.{Bool, true, false, not, cond}
use Prim.Native.Nat.{ℕ, zero, suc, ◌+◌, ◌-◌, ◌*◌, ◌/◌, ◌^◌, ◌≤◌, ◌<◌}
use native.Mathlib.Nat.{
  lt_of_not-le,
  not-le_of_lt,
  mul-le-mul,
  mul-suc,
  suc-mul,
  mul-mul-mul_comm,
  pow-suc,
}
use native.Mathlib.Omega.{arith}
use lib.Dec.{T, leb, leb→le, nleb→lt}
use lib.Ieee.Digits.{size-lt}
use Rattle.rounding_root.specs.inner.Squares.{Closest}
use Rattle.rounding_root.proofs.WholeSquares.{square_next}
use Rattle.rounding_root.specs.Root.{root_below, root}

-- ---- the order of squares

pub square_le : {a b : ℕ} → a ≤ b → a * a ≤ b * b
square_le h = mul-le-mul h h

pub square_lt : {a b : ℕ} → a < b → a * a < b * b
square_lt {a} {b} h =
    let up : suc a * suc a ≤ b * b = square_le h in
    let is : suc a * suc a ≡ a * a + a + suc a = mul-suc (suc a) a ∙ ap (λ (x : ℕ). x + suc a) (suc-mul a a) in
    omega arith

pub square_lt_back : {a b : ℕ} → a * a < b * b → a < b
square_lt_back {a} {b} h = lt_of_not-le (λ (g : b ≤ a). not-le_of_lt h (square_le g))

-- (2 * a + 1) * (2 * a + 1), written out
pub square_odd : (a : ℕ) → (2 * a + 1) * (2 * a + 1) ≡ 4 * (a * a) + 4 * a + 1
square_odd a =
    let next = square_next (2 * a) in
    let twice : 2 * a * (2 * a) ≡ 4 * (a * a) = mul-mul-mul_comm 2 a 2 a in
    omega arith

-- ---- the whole root

pub record IsRoot (n r : ℕ) : Type 0 where
  pub low : r * r ≤ n
  pub high : n < (r + 1) * (r + 1)

quarter : (d n : ℕ) → n < 2 ^ suc d → n / 4 < 2 ^ d
quarter d n h = let e : 2 ^ suc d ≡ 2 ^ d * 2 = pow-suc 2 d in omega arith

-- one more digit
step : (n s : ℕ) → IsRoot (n / 4) s → IsRoot n (cond (leb ((2 * s + 1) * (2 * s + 1)) n) (2 * s + 1) (2 * s))
step n s is = go (leb (r1 * r1) n) (leb→le (r1 * r1) n) (nleb→lt (r1 * r1) n)
  where
    r1 : ℕ
    r1 = 2 * s + 1

    go : (b : Bool) → (T b → (2 * s + 1) * (2 * s + 1) ≤ n) → (T (not b) → n < (2 * s + 1) * (2 * s + 1))
        → IsRoot n (cond b (2 * s + 1) (2 * s))
    go true h g =
        let even : 2 * (s + 1) * (2 * (s + 1)) ≡ 4 * ((s + 1) * (s + 1)) = mul-mul-mul_comm 2 (s + 1) 2 (s + 1) in
        let same : 2 * s + 1 + 1 ≡ 2 * (s + 1) = omega arith in
        record { low = h tt; high = rw same (omega arith) }
    go false h g =
        let even : 2 * s * (2 * s) ≡ 4 * (s * s) = mul-mul-mul_comm 2 s 2 s in
        record { low = omega arith; high = g tt }

below_is : (d n : ℕ) → n < 2 ^ d → IsRoot n (root_below d n)
unfolding root_below
below_is zero n h = record { low = omega arith; high = h }
below_is (suc d) n h = step n (root_below d (n / 4)) (below_is d (n / 4) (quarter d n h))

pub root_is : (n : ℕ) → IsRoot n (root n)
unfolding root
root_is n = below_is _ n (size-lt n)

none_higher : {x a c : ℕ} → Closest x a → Closest x (c + 1) → a ≤ c → ⊥
none_higher {x} {a} {c} p q h =
    let more : a * a ≤ c * c = square_le h in
    let next = square_next c in
    omega arith

not_above : {x a b : ℕ} → Closest x a → Closest x b → a < b → ⊥
not_above {x} {a} {b} p q h = let up : b
    ≡ b - 1 + 1 = omega arith in none_higher p (subst (Closest x) up q) (omega arith)

pub closest_unique : {x a b : ℕ} → Closest x a → Closest x b → a ≡ b
closest_unique {x} {a} {b} p q =
    let l : a < suc b = lt_of_not-le (not_above q p) in
    let m : b < suc a = lt_of_not-le (not_above p q) in
    omega arith
