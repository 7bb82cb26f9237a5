-- Whole numbers in order: sums, and the products that decide the double rule. Assumes nothing.
use mathlib.Core.Path.{◌≡◌, refl, sym, ap, ◌∙◌}
use mathlib.Core.Bool.{false}
use Prim.Native.Nat.{ℕ, zero, suc, ◌+◌, ◌<◌, ◌≤◌}
use native.Mathlib.Nat.{mul-le-mul_right, le_refl}
use native.Mathlib.Omega.{arith}
use borrow.Author.Tests.{le-ltb, ltb-false}
use lib.IntN.{ℤ, pos, ◌+ℤ◌, ◌*ℤ◌}
use lib.Signed.{lt_z}
use Rattle.rounding.specs.Whole.{total, is_negative}
use Rattle.rounding_laws.proofs.Integers.{above, below, parts_add, parts_lt, parts_times}
use Rattle.rounding_laws.proofs.Products.{minus_negative}
use Rattle.rules_double.proofs.Spread.{parted}

above_parts : (a b : ℤ) → lt_z b a ≡ false → above a + below b ≤ above b + below a
above_parts a b h = ltb-false (above b + below a) (above a + below b) (sym (parts_lt b a) ∙ h)

parts_above : (a b : ℤ) → above a + below b ≤ above b + below a → lt_z b a ≡ false
parts_above a b h = parts_lt b a ∙ le-ltb (above b + below a) (above a + below b) h

-- sums are monotone
pub total_not_above : (t u : ℕ → ℤ) (a k : ℕ) → ((j : ℕ) → j < k → lt_z (u (a + j)) (t (a + j)) ≡ false)
    → lt_z (total u a k) (total t a k) ≡ false
unfolding total
total_not_above t u a zero h = refl
total_not_above t u a (suc k) h =
    let r = above_parts (total t a k) (total u a k) (total_not_above t u a k (λ j l. h j (omega arith))) in
    let s = above_parts (t (a + k)) (u (a + k)) (h k (le_refl (suc k))) in
    parts_above (total t a k +ℤ t (a + k)) (total u a k +ℤ u (a + k))
    (omega (arith, r, s, parts_add (total t a k) (t (a + k)), parts_add (total u a k) (u (a + k))))

-- m times the short sum s against n times the long one, of m = n + d bars: d times s against n times the rest o
pub short_share : (s o : ℤ) (n d : ℕ) → lt_z (s *ℤ pos (n + d)) ((o +ℤ s) *ℤ pos n) ≡ lt_z (s *ℤ pos d) (o *ℤ pos n)
short_share s o n d =
    sym (minus_negative (s *ℤ pos (n + d)) ((o +ℤ s) *ℤ pos n)) ∙ ap is_negative (sym (parted s o n d))
    ∙ minus_negative (s *ℤ pos d) (o *ℤ pos n)

-- a sum that is not less gives +1 too, beside a rest that is not more
pub share_grows : (s s' o o' : ℤ) (n d : ℕ) → lt_z s' s ≡ false → lt_z o o' ≡ false
    → lt_z (s *ℤ pos d) (o *ℤ pos n) ≡ false → lt_z (s' *ℤ pos d) (o' *ℤ pos n) ≡ false
share_grows s s' o o' n d p q e =
    parts_above (o' *ℤ pos n) (s' *ℤ pos d)
    (omega (
      arith,
      mul-le-mul_right d (above_parts s s' p),
      mul-le-mul_right n (above_parts o' o q),
      above_parts (o *ℤ pos n) (s *ℤ pos d) e,
      parts_times s d,
      parts_times s' d,
      parts_times o n,
      parts_times o' n,
    ))
