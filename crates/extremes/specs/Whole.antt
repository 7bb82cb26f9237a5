-- The highest and the lowest of the last n whole numbers. Assumes nothing.
use Rattle.std.specs.Prelude.{cond, ℕ, zero, suc, ◌+◌, ◌-◌, ℤ}
use Rattle.std.specs.Int.Signed.{lt_z}

-- ---- the highest and the lowest of neighbouring integers

-- z a, z (a + 1), .., z (a + k), joined from left to right by `pick`
unfoldable pub pickℤ : (ℤ → ℤ → ℤ) → (ℕ → ℤ) → ℕ → ℕ → ℤ
pickℤ pick z a zero = z a
pickℤ pick z a (suc k) = pick (pickℤ pick z a k) (z (a + suc k))

abbrev pub higher : ℤ → ℤ → ℤ
higher a b = cond (lt_z a b) b a

abbrev pub lower : ℤ → ℤ → ℤ
lower a b = cond (lt_z b a) b a

-- of the last n numbers at bar i
abbrev pub highest : ℕ → (ℕ → ℤ) → ℕ → ℤ
highest n z i = pickℤ higher z (i + 1 - n) (n - 1)

abbrev pub lowest : ℕ → (ℕ → ℤ) → ℕ → ℤ
lowest n z i = pickℤ lower z (i + 1 - n) (n - 1)
