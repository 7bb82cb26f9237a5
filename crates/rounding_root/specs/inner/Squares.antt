-- The whole number closest to a root. Assumes nothing.
use Rattle.std.specs.Prelude.{ℕ, ◌+◌, ◌*◌, ◌≤◌, ◌<◌}

-- ---- the whole number closest to √x: from x - x's own middle below, √x > r - 1/2, to the middle above, √x < r + 1/2

pub record Closest (x r : ℕ) : Type 0 where
  pub above : r * r < x + r
  pub below : x ≤ r * r + r
