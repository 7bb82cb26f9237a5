-- The limits of a call, each said once; src/lib.rt has constants of the same names and numbers. Assumes nothing.
use Rattle.std.specs.Prelude.{ℕ, ◌<◌, ◌≤◌}

-- bars of a series
abbrev pub longest_series : ℕ
longest_series = 65536

-- bars of a window
abbrev pub longest_window : ℕ
longest_window = 720

-- bars of a smoother's period
abbrev pub longest_period : ℕ
longest_period = 512

-- an accepted value is at most 2 ^ value_power = 1,073,741,824 in magnitude, and a whole tick at most 2 ^ tick_power =
-- 16,777,216
abbrev pub value_power : ℕ
value_power = 30

abbrev pub tick_power : ℕ
tick_power = 24

-- a window of at least one bar and at most the longest
pub record Window (n : ℕ) : Type 0 where
  pub some : 0 < n
  pub narrow : n ≤ longest_window
