-- The square of the next number. Assumes nothing.
use mathlib.Core.Path.{◌≡◌, ap, ◌∙◌}
use Prim.Native.Nat.{ℕ, ◌+◌, ◌*◌}
use native.Mathlib.Nat.{one-mul, mul-add, add-mul}
use native.Mathlib.Omega.{arith}

-- (a + 1) * (a + 1), written out
pub square_next : (a : ℕ) → (a + 1) * (a + 1) ≡ a * a + 2 * a + 1
square_next a = mul-add (a + 1) a 1 ∙ ap (λ (x : ℕ). x + (a + 1) * 1) (add-mul a 1 a)
    ∙ (let u : 1 * a ≡ a = one-mul a in omega arith)
