-- What the functions under `square_root` ask of each other. Assumes nothing.
use Rattle.std.specs.Prelude.{ℕ, ◌+◌, ◌*◌, ◌^◌, ◌≤◌, ◌<◌}
use Rattle.rounding_root.specs.inner.Squares.{Closest}

-- a number of 53 digits
pub record Digits (q : ℕ) : Type 0 where
  pub low : 2 ^ 52 ≤ q
  pub high : q < 2 ^ 53

-- m * 2 ^ 52 has a root of 53 digits
pub record Square (m : ℕ) : Type 0 where
  pub low : 2 ^ 52 ≤ m
  pub high : m + 2 ≤ 2 ^ 54

-- r is the whole number of 53 digits that is closest to √(m * 2 ^ 52)
pub record Rooted (m r : ℕ) : Type 0 where
  pub digits : Digits r
  pub closest : Closest (m * 2 ^ 52) r
