-- Whole numbers: their sign, and sums of neighbouring ones. Assumes nothing.
use Rattle.std.specs.Prelude.{ℕ, zero, suc, ◌+◌, Bool, true, false, ℤ, pos, negsuc, ◌+ℤ◌}

-- t a + t (a + 1) + .. + t (a + k - 1)
unfoldable pub total : (ℕ → ℤ) → ℕ → ℕ → ℤ
total t a zero = pos 0
total t a (suc k) = total t a k +ℤ t (a + k)

abbrev pub is_negative : ℤ → Bool
is_negative (pos n) = false
is_negative (negsuc n) = true
