-- What printing adds to a text. Assumes nothing.
use Rattle.std.specs.Prelude.{◌≡◌, List, ◌++◌, ℕ, ◌+◌, length, take}

-- The first `at` bytes stand, and after them came the bytes `more`, which end at r.
pub record Adds (at : ℕ) (more : List ℕ) (r : ℕ) (old now : List ℕ) : Type 0 where
  pub end : r ≡ at + length more
  pub text : take r now ≡ take at old ++ more
  pub long : length now ≡ length old
