-- The two neighbours that `nearest_root` chooses between, and which one it takes. Assumes nothing.
use mathlib.Core.Path.{◌≡◌, refl, sym, ap, ◌∙◌, subst}
use mathlib.Core.Bool.{false, not}
use mathlib.Core.Logic.{◌⊎◌, inl, inr}
use Prim.Native.Nat.{ℕ, ◌+◌, ◌-◌, ◌*◌, ◌/◌, ◌^◌, ◌≤◌, ◌<◌, compare, Ordering}
use native.Mathlib.Nat.{
  le_trans,
  lt_of_lt_of_le,
  eq-zero-or-pos,
  suc-mul,
  mul_assoc,
  mul-mul-mul_comm,
  mul-pos,
  eq_of_mul-eq-mul_right,
  div-mul-le_self,
  lt-div-mul-add,
  le-div_iff_mul-le,
}
use native.Mathlib.Numerals.{add-one}
use native.Mathlib.Omega.{arith}
use lib.Arith.{lt_of_le-ne}
use lib.Dec.{T, is_le, compare_is_eq, leb→le, nleb→lt, eqb→eq}
use lib.Pow.{pow-add, pow_pos}
use lib.Ieee.{Format, prec, size, nearest, units}
use lib.Ieee.Digits.{size_reaches}
use lib.Ieee.Fits.{two, kept-lt}
use Rattle.rounding_root.specs.Root.{root, nearest_root}
use Rattle.rounding_root.proofs.Squares.{square_le, square_odd, root_is}

-- how many digits of the root are dropped, and the number that is kept
abbrev pub dropped : Format → ℕ → ℕ
dropped f n = size (root n) - prec f

abbrev pub kept : Format → ℕ → ℕ
kept f n = root n / 2 ^ dropped f n

-- the sum of the two neighbours
abbrev pub sum_of : ℕ → ℕ → ℕ
sum_of q k = (2 * q + 1) * 2 ^ k

pub nearest_root_is : (f : Format) (n : ℕ) → let q = kept f n in let s = sum_of q (dropped f n) in
    nearest_root f n ≡ units f false (nearest q (compare (4 * n) (s * s))) (dropped f n)
unfolding nearest_root
nearest_root_is f n = refl

-- √n lies from q * 2 ^ k up to (q + 1) * 2 ^ k, and q has all the digits of the format, or no digit was dropped
pub record Between (f : Format) (n q k : ℕ) : Type 0 where
  pub low : q * 2 ^ k * (q * 2 ^ k) ≤ n
  pub high : n < (q + 1) * 2 ^ k * ((q + 1) * 2 ^ k)
  pub short : q < 2 ^ prec f
  pub full : (k ≡ 0) ⊎ (2 ^ (prec f - 1) ≤ q)

pub between : (f : Format) (n : ℕ) → Between f n (kept f n) (dropped f n)
between f n =
    let r = root n in
    let k = dropped f n in
    let q = kept f n in
    let is = root_is n in
    let room : r < q * 2 ^ k + 2 ^ k = lt-div-mul-add (pow_pos k) in
    let next : (q + 1) * 2 ^ k ≡ q * 2 ^ k + 2 ^ k = rw add-one (suc-mul q (2 ^ k)) in
    record {
      low = le_trans (square_le (div-mul-le_self r (2 ^ k))) is.low;
      high = lt_of_lt_of_le is.high (square_le (omega arith));
      short = kept-lt (prec f) r;
      full = elim (eq-zero-or-pos k) [
        | inl z ↦ inl z
        | inr p ↦
            let two_digits = two f in
            let top : 2 ^ (prec f - 1 + k) ≤ r = size_reaches r (prec f - 1 + k) (omega arith) in
            inr ((le-div_iff_mul-le (pow_pos k)).1 (subst (λ (x : ℕ). x ≤ r) (pow-add 2 (prec f - 1) k) top))
      ];
    }

-- z is the one of q and q + 1 that a < b or b < a says
abbrev pub Chosen : ℕ → ℕ → ℕ → ℕ → Type 0
Chosen q z a b = ((z ≡ q) × (a < b)) ⊎ ((z ≡ q + 1) × (b < a))

pub pick : (q a b : ℕ) → (a ≡ b → ⊥) → Chosen q (nearest q (compare a b)) a b
pick q a b none = go (compare a b) (leb→le a b) (nleb→lt a b) (eqb→eq a b)
  where
    go : (o : Ordering) → (T (is_le o) → a ≤ b) → (T (not (is_le o)) → b < a) → (T (compare_is_eq o) → a ≡ b)
        → Chosen q (nearest q o) a b
    go Ordering.lt h g e = inl (refl, lt_of_le-ne (h tt) none)
    go Ordering.eq h g e = absurd (none (e tt))
    go Ordering.gt h g e = inr (sym (add-one q), g tt)

-- the square of the sum, with 4 ^ k taken out: an odd number, so that it is not four times another
pub sum_square : (q k : ℕ) → sum_of q k * sum_of q k ≡ (4 * (q * q) + 4 * q + 1) * (2 ^ k * 2 ^ k)
sum_square q k = mul-mul-mul_comm (2 * q + 1) (2 ^ k) (2 * q + 1) (2 ^ k)
    ∙ ap (λ (y : ℕ). y * (2 ^ k * 2 ^ k)) (square_odd q)

pub no_tie_at : (n x q k : ℕ) → n ≡ x * (2 ^ k * 2 ^ k) → 4 * n ≡ sum_of q k * sum_of q k → ⊥
no_tie_at n x q k is tie =
    let w = 2 ^ k * 2 ^ k in
    let even : 4 * x ≡ 4 * (q * q) + 4 * q + 1 =
    eq_of_mul-eq-mul_right w (mul-pos (pow_pos k) (pow_pos k)) (4 * x) (4 * (q * q) + 4 * q + 1)
    (mul_assoc 4 x w ∙ ap (λ (y : ℕ). 4 * y) (sym is) ∙ tie ∙ sum_square q k) in
    omega arith
