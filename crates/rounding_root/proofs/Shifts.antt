-- A number as 53 digits and a power of two, and then as a square's number with an even power. Assumes nothing.
use mathlib.Core.Path.{◌≡◌, sym, ap, ap₂, ◌∙◌, subst}
use Prim.Native.Nat.{ℕ, zero, suc, ◌+◌, ◌-◌, ◌*◌, ◌/◌, ◌%◌, ◌^◌, ◌≤◌, ◌<◌}
use native.Mathlib.Nat.{le_trans, le_of_eq, lt_of_not-le, not-le_of_lt, mul_assoc, mul-le-mul_right}
use native.Mathlib.Omega.{arith}
use lib.Count.{count_leading_zeros, leading_top}
use lib.Pow.{pow-add, pow_mono, shl_lt, shl_exact}
use Rattle.rounding_root.specs.inner.Steps.{Digits, Square}

-- ---- an even power

pub record Evened (p e m : ℕ) : Type 0 where
  pub square : Square m
  pub same : p * 2 ^ (e + 53) ≡ m * 2 ^ 52 * (2 ^ ((e + 1) / 2) * 2 ^ ((e + 1) / 2))

-- twice p, where e is even
either : (i p : ℕ) → i ≤ 1 → Digits p → Square (p * 2 ^ i)
either zero p l d = record { low = omega arith; high = omega arith }
either (suc zero) p l d = record { low = omega arith; high = omega arith }
either (suc (suc i)) p l d = absurd (omega arith)

pub evened : (p e : ℕ) → Digits p → Evened p e (p * 2 ^ (1 - e % 2) % 2 ^ 64)
evened p e d =
    let i = 1 - e % 2 in
    let k = (e + 1) / 2 in
    let small : 53 + i ≤ 64 = omega arith in
    let whole = shl_exact 53 i 64 d.high small in
    let parts : e + 53 ≡ i + 52 + (k + k) = omega arith in
    rw whole
    (record {
      square = either i p (omega arith) d;
      same = ap (λ (y : ℕ). p * 2 ^ y) parts
          ∙ ap (λ (y : ℕ). p * y) (pow-add 2 (i + 52) (k + k) ∙ ap₂ ◌*◌ (pow-add 2 i 52) (pow-add 2 k k))
          ∙ simp (mul_assoc);
    })

-- ---- 53 digits

pub record Moved (t zeros : ℕ) : Type 0 where
  pub at_least : 11 ≤ zeros
  pub at_most : zeros ≤ 63
  pub digits : Digits (t * 2 ^ (zeros - 11) % 2 ^ 64)
  pub same : t * 2 ^ 1074 ≡ t * 2 ^ (zeros - 11) % 2 ^ 64 * 2 ^ (1021 - (zeros - 11) + 53)

pub moved : (t : ℕ) → 0 < t → t < 2 ^ 52 → Moved t (count_leading_zeros 64 t)
moved t p h =
    let top = leading_top 64 t p (omega arith) in
    let j = top.0 in
    let count = top.1 in
    let low : j < 52 = lt_of_not-le (λ (g : 52 ≤ j). not-le_of_lt h (le_trans (pow_mono g) top.2)) in
    let z = count_leading_zeros 64 t - 11 in
    let up : j + z ≡ 52 = omega arith in
    let past : suc j + z ≡ 53 = omega arith in
    let all : 1074 ≡ z + (1021 - z + 53) = omega arith in
    let whole : t * 2 ^ z % 2 ^ 64 ≡ t * 2 ^ z = shl_exact (suc j) z 64 top.3 (omega arith) in
    let least : 2 ^ 52 ≤ t * 2 ^ z = le_trans (le_of_eq (ap (λ (y : ℕ). 2 ^ y) (sym up) ∙ pow-add 2 j z))
    (mul-le-mul_right (2 ^ z) top.2) in
    let most : t * 2 ^ z < 2 ^ 53 = subst (λ (y : ℕ). t * 2 ^ z < 2 ^ y) past (shl_lt (suc j) z top.3) in
    record {
      at_least = omega arith;
      at_most = omega arith;
      digits = record { low = omega arith; high = omega arith };
      same = ap (λ (y : ℕ). t * 2 ^ y) all ∙ ap (λ (y : ℕ). t * y) (pow-add 2 z (1021 - z + 53))
          ∙ sym (mul_assoc t (2 ^ z) (2 ^ (1021 - z + 53))) ∙ ap (λ (y : ℕ). y * 2 ^ (1021 - z + 53)) (sym whole);
    }
