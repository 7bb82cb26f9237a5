-- Sums and means of the last n cells, and running sums. Every operation is rounded once. Assumes nothing.
use Rattle.std.specs.Prelude.{ℕ, zero, suc, ◌+◌, ◌-◌, pos, ℤ, Float}
use Rattle.std.specs.Float.{binary64}
use Rattle.std.specs.Float.Ieee.{add, sub, div, of_int}
use Rattle.cells.specs.Line.{Line, plus_zero, minus_zero, from_bar}
use Rattle.cells.specs.Recur.{recur}
use Rattle.rounding.specs.Whole.{total}

-- z + f a + f (a + 1) + .. + f (a + k - 1), from left to right
unfoldable pub sum_from : Float → Line → ℕ → ℕ → Float
sum_from z f a zero = z
sum_from z f a (suc k) = add binary64 (sum_from z f a k) (f (a + k))

-- the last n cells up to bar i, summed afresh from -0.0, as Rust's `sum` does
unfoldable pub window_sum : ℕ → Line → Line
window_sum n f i = sum_from minus_zero f (i + 1 - n) n

-- divided by the window's length
abbrev pub over : ℕ → Float → Float
over n x = div binary64 x (of_int binary64 (pos n))

-- the mean of the last n cells, and 0.0 before bar n - 1
unfoldable pub mean : ℕ → Line → Line
mean n f = from_bar (n - 1) plus_zero (λ i. over n (window_sum n f i))

-- A running sum of n cells, k bars after bar n - 1: there the first n cells are summed afresh, and then `slide` makes
-- the next sum of the present one, the cell that comes in and the cell that goes out.
unfoldable pub running_sum : (Float → Float → Float → Float) → ℕ → Line → ℕ → Float
running_sum slide n f = recur (sum_from minus_zero f 0 n) (λ k sum. slide sum (f (n + k)) (f k))

-- ---- sma: TA-Lib's SMA, with the difference of the new price and the old one added to the running sum in one step

abbrev pub add_difference : Float → Float → Float → Float
add_difference sum new old = add binary64 sum (sub binary64 new old)

-- ---- double_sma_positions: two averages

-- the new price is added, and then the old one subtracted
abbrev pub add_then_subtract : Float → Float → Float → Float
add_then_subtract sum new old = sub binary64 (add binary64 sum new) old

-- ---- windows of whole ticks

-- the sum of the last n numbers at bar i
abbrev pub window_total : ℕ → (ℕ → ℤ) → ℕ → ℤ
window_total n t i = total t (i + 1 - n) n
