-- The range that the closest root lies in, as `searched` halves it. Assumes nothing.
use mathlib.Core.Path.{◌≡◌, subst}
use Prim.Native.Nat.{ℕ, ◌+◌, ◌-◌, ◌*◌, ◌/◌, ◌^◌, ◌≤◌, ◌<◌}
use native.Mathlib.Omega.{arith}
use Rattle.rounding_root.proofs.WholeSquares.{square_next}
use Rattle.rounding_root.specs.inner.Squares.{Closest}

-- h * (h + 1) < m * 2 ^ 52 at the low end, m * 2 ^ 52 ≤ (h + 1) * (h + 2) at the high one: where they meet, h + 1 is
-- closest
pub record Span (m lo hi : ℕ) : Type 0 where
  pub first : 2 ^ 52 ≤ lo + 1
  pub order : lo ≤ hi
  pub last : hi + 2 ≤ 2 ^ 53
  pub above : lo * lo + lo < m * 2 ^ 52
  pub below : m * 2 ^ 52 ≤ hi * hi + (3 * hi + 2)

closest_next : (m h : ℕ) → h * h + h < m * 2 ^ 52 → m * 2 ^ 52 ≤ h * h + (3 * h + 2) → Closest (m * 2 ^ 52) (h + 1)
closest_next m h a b = let next = square_next h in record { above = omega arith; below = omega arith }

-- what the test of a guess q shows, with h = q - 1
pub passed : (m q : ℕ) → 0 < q → let h = q - 1 in (h * h + h) / 2 ^ 52 < m → m ≤ (h * h + (3 * h + 2)) / 2 ^ 52
    → Closest (m * 2 ^ 52) q
passed m q p a b =
    let h = q - 1 in
    let back : h + 1 ≡ q = omega arith in
    subst (Closest (m * 2 ^ 52)) back (closest_next m h (omega arith) (omega arith))
