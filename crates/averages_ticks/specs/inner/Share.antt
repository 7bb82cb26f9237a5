-- Division by a product: a number times 2^38 / (2 * n), rounded up, over 2^38, is its whole part by 2 * n, or one too
-- many. Assumes nothing.
use Rattle.std.specs.Prelude.{◌≡◌, ℕ, ◌+◌, ◌*◌, ◌/◌, ◌≤◌, ◌^◌}
use Rattle.limits.specs.Limits.{Window, tick_power}

-- 2^38 / (2 * n), rounded up
abbrev pub share_of : ℕ → ℕ
share_of n = 274877906944 / (2 * n) + 1

-- the sum of n ticks without its sign, and the share of n
pub record Shared (size n share : ℕ) : Type 0 where
  pub window : Window n
  pub small : size ≤ n * 2 ^ tick_power
  pub is : share ≡ share_of n
