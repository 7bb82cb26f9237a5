-- From the closest whole root of x to the nearest float root of x * 4 ^ k. Assumes nothing.
use mathlib.Core.Path.{◌≡◌, sym, ap, ◌∙◌, subst}
use mathlib.Core.Bool.{false}
use mathlib.Core.Logic.{inl, inr}
use Prim.Native.Nat.{ℕ, suc, ◌+◌, ◌*◌, ◌/◌, ◌^◌, ◌≤◌, ◌<◌, compare}
use native.Mathlib.Nat.{
  le_trans,
  le_of_eq,
  lt_of_lt_of_le,
  lt_of_le_of_lt,
  lt_of_not-le,
  not-le_of_lt,
  mul_assoc,
  mul-mul-mul_comm,
  mul-pos,
  mul-le-mul_right,
  mul-lt-mul_of_pos_right,
  le_of_mul-le-mul_right,
  lt_of_mul-lt-mul_right,
  two-pow-succ,
}
use native.Mathlib.Omega.{arith}
use lib.Pow.{pow-add, pow_pos, pow_mono}
use lib.Ieee.{binary64, size, nearest, units}
use lib.Ieee.Digits.{size-lt, size-le}
use Rattle.rounding_root.specs.Root.{root, nearest_root}
use Rattle.rounding_root.proofs.Neighbours.{
  dropped,
  sum_of,
  nearest_root_is,
  Between,
  between,
  Chosen,
  pick,
  sum_square,
  no_tie_at,
}
use Rattle.rounding_root.proofs.Squares.{square_lt_back, root_is, closest_unique}
use Rattle.rounding_root.specs.inner.Squares.{Closest}
use Rattle.rounding_root.proofs.WholeSquares.{square_next}

-- how many digits a number has, by the powers that it lies between
pub size_is : (n j : ℕ) → 2 ^ j ≤ n → n < 2 ^ suc j → size n ≡ suc j
size_is n j a b =
    let most = size-le n (suc j) b in
    let least : j < size n = lt_of_not-le
    (λ (g : size n ≤ j). not-le_of_lt (lt_of_lt_of_le (size-lt n) (pow_mono g)) a) in
    omega arith

module _ (n x k : ℕ) (is : n ≡ x * (2 ^ k * 2 ^ k)) where
  w_pos : 0 < 2 ^ k * 2 ^ k
  w_pos = mul-pos (pow_pos k) (pow_pos k)

  four : 4 * n ≡ 4 * x * (2 ^ k * 2 ^ k)
  four = ap (λ (y : ℕ). 4 * y) is ∙ sym (mul_assoc 4 x (2 ^ k * 2 ^ k))

  -- a factor 2 ^ k is taken out of the root
  lower : (a : ℕ) → a * 2 ^ k * (a * 2 ^ k) ≤ n → a * a ≤ x
  lower a h = le_of_mul-le-mul_right (subst (λ (y : ℕ). a * a * (2 ^ k * 2 ^ k) ≤ y) is
      (le_trans (le_of_eq (mul-mul-mul_comm a a (2 ^ k) (2 ^ k))) h)) w_pos

  upper : (a : ℕ) → n < a * 2 ^ k * (a * 2 ^ k) → x < a * a
  upper a h = lt_of_mul-lt-mul_right (2 ^ k * 2 ^ k)
      (subst (λ (y : ℕ). y < a * a * (2 ^ k * 2 ^ k)) is
      (lt_of_lt_of_le h (le_of_eq (mul-mul-mul_comm a (2 ^ k) a (2 ^ k)))))

  -- of two neighbours the nearer one is closest
  chosen : (q z : ℕ) → 0 < q → q * q ≤ x → x < (q + 1) * (q + 1) → Chosen q z (4 * n) (sum_of q k * sum_of q k)
      → Closest x z
  chosen q z p lo hi (inl (e, h)) =
      let less : 4 * x < 4 * (q * q) + 4 * q + 1 = lt_of_mul-lt-mul_right (2 ^ k * 2 ^ k)
      (rw (four, sum_square q k) at h) in
      subst (Closest x) (sym e) (record { above = omega arith; below = omega arith })
  chosen q z p lo hi (inr (e, h)) =
      let more : 4 * (q * q) + 4 * q + 1 < 4 * x = lt_of_mul-lt-mul_right (2 ^ k * 2 ^ k)
      (rw (four, sum_square q k) at h) in
      let next = square_next q in
      subst (Closest x) (sym e) (record { above = omega arith; below = omega arith })

  module _ (least : 2 ^ 104 ≤ x) (most : x < 2 ^ 106) where
    -- so the root has 53 + k digits, of which k are dropped
    drops : dropped binary64 n ≡ k
    drops =
        let r = root n in
        let r_is = root_is n in
        let lo : 2 ^ 52 * 2 ^ k < r + 1 = square_lt_back
        (lt_of_le_of_lt (le_trans (le_of_eq (mul-mul-mul_comm (2 ^ 52) (2 ^ k) (2 ^ 52) (2 ^ k)))
        (le_trans (mul-le-mul_right (2 ^ k * 2 ^ k) least) (le_of_eq (sym is)))) r_is.high) in
        let hi : r < 2 ^ 53 * 2 ^ k = square_lt_back
        (lt_of_le_of_lt r_is.low (lt_of_le_of_lt (le_of_eq is)
        (lt_of_lt_of_le (mul-lt-mul_of_pos_right most w_pos)
        (le_of_eq (mul-mul-mul_comm (2 ^ 53) (2 ^ 53) (2 ^ k) (2 ^ k)))))) in
        let a : 2 ^ (52 + k) ≡ 2 ^ 52 * 2 ^ k = pow-add 2 52 k in
        let b = two-pow-succ (52 + k) in
        let digits = size_is r (52 + k) (omega arith) (omega arith) in
        omega arith

    pub nearest_is : {q : ℕ} → Closest x q → nearest_root binary64 n ≡ units binary64 false q k
    nearest_is {q} c =
        let b = subst (λ (d : ℕ). Between binary64 n (root n / 2 ^ d) d) drops (between binary64 n) in
        let kept = root n / 2 ^ k in
        let hi : x < (kept + 1) * (kept + 1) = upper (kept + 1) b.high in
        let large : 2 ^ 52 < kept + 1 = square_lt_back (lt_of_le_of_lt least hi) in
        nearest_root_is binary64 n
        ∙ ap (λ (d : ℕ). let s = sum_of (root n / 2 ^ d) d in units binary64 false
        (nearest (root n / 2 ^ d) (compare (4 * n) (s * s))) d) drops
        ∙ ap (λ (z : ℕ). units binary64 false z k)
        (closest_unique (chosen kept _ (omega arith) (lower kept b.low) hi
        (pick kept _ _ (no_tie_at n x kept k is))) c)
