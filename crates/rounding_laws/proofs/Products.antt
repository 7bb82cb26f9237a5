-- Products of integers with sums and differences, the sign of a difference, and the sum of neighbouring integers in two
-- parts. Assumes nothing.
use mathlib.Core.Path.{◌≡◌, sym, ap}
use Prim.Native.Nat.{ℕ, zero, suc, ◌+◌, ◌*◌}
use native.Mathlib.Nat.{add-zero}
use native.Mathlib.Omega.{arith}
use borrow.Author.Tests.{lt-ltb, le-ltb}
use lib.Dec.{ltb}
use lib.IntN.{ℤ, pos, negsuc, ◌+ℤ◌, ◌-ℤ◌, ◌*ℤ◌, +ℤ_assoc, +ℤ_idr}
use lib.Signed.{lt_z}
use Rattle.rounding.specs.Whole.{total, is_negative}
use Rattle.rounding_laws.proofs.Integers.{
  above,
  below,
  parts_add,
  parts_lt,
  parts_minus,
  parts_same,
  parts_times,
}

-- an equation of natural numbers, times n
pub times : (n : ℕ) {a b : ℕ} → a ≡ b → a * n ≡ b * n
times n e = ap (λ (k : ℕ). k * n) e

-- a product with a sum and with a difference
pub times_add : (a b : ℤ) (n : ℕ) → (a +ℤ b) *ℤ pos n ≡ a *ℤ pos n +ℤ b *ℤ pos n
times_add a b n =
    parts_same ((a +ℤ b) *ℤ pos n) (a *ℤ pos n +ℤ b *ℤ pos n)
    (omega (
      arith,
      parts_times (a +ℤ b) n,
      parts_times a n,
      parts_times b n,
      times n (parts_add a b),
      parts_add (a *ℤ pos n) (b *ℤ pos n),
    ))

pub times_minus : (a b : ℤ) (n : ℕ) → (a -ℤ b) *ℤ pos n ≡ a *ℤ pos n -ℤ b *ℤ pos n
times_minus a b n =
    parts_same ((a -ℤ b) *ℤ pos n) (a *ℤ pos n -ℤ b *ℤ pos n)
    (omega (
      arith,
      parts_times (a -ℤ b) n,
      parts_times a n,
      parts_times b n,
      times n (parts_minus a b),
      parts_minus (a *ℤ pos n) (b *ℤ pos n),
    ))

pub add_times : (a : ℤ) (n d : ℕ) → a *ℤ pos (n + d) ≡ a *ℤ pos n +ℤ a *ℤ pos d
add_times a n d =
    parts_same (a *ℤ pos (n + d)) (a *ℤ pos n +ℤ a *ℤ pos d)
    (omega (
      arith,
      parts_times a (n + d),
      parts_times a n,
      parts_times a d,
      parts_add (a *ℤ pos n) (a *ℤ pos d),
    ))

-- the sign of a difference
pub minus_negative : (a b : ℤ) → is_negative (a -ℤ b) ≡ lt_z a b
minus_negative a b = rw (parts_lt a b) (go (a -ℤ b) (parts_minus a b))
  where
    go : (z : ℤ) → above z + (below a + above b) ≡ above a + below b + below z → is_negative z
        ≡ ltb (above a + below b) (above b + below a)
    go (pos k) e = sym (le-ltb (above a + below b) (above b + below a) (omega arith))
    go (negsuc k) e = sym (lt-ltb (above a + below b) (above b + below a) (omega arith))

-- a sum in two parts
pub total_parts : (t : ℕ → ℤ) (a j k : ℕ) → total t a (j + k) ≡ total t a j +ℤ total t (a + j) k
unfolding total
total_parts t a j zero = rw add-zero (sym (+ℤ_idr (total t a j)))
total_parts t a j (suc k) =
    let bar : a + (j + k) ≡ a + j + k = omega arith in
    let count : j + suc k ≡ suc (j + k) = omega arith in
    rw (count, total_parts t a j k, bar) (+ℤ_assoc (total t a j) (total t (a + j) k) (t (a + j + k)))
