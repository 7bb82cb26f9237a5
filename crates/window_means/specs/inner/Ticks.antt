-- Where running sums pay. Assumes nothing.
use Rattle.std.specs.Prelude.{Bool, ◌&&◌, List, ℕ, ltb, Float}
use Rattle.values.specs.Accepted.{tick, all}

-- the longest window that is summed afresh also on whole ticks
abbrev pub longest_afresh : ℕ
longest_afresh = 12

-- a longer window, over whole ticks
abbrev pub long_ticks : ℕ → List Float → Bool
long_ticks n s = ltb longest_afresh n && all tick s
