-- The means and the variances of a few bars, as far as they are written to two small slices. Assumes nothing.
use Rattle.std.specs.Prelude.{◌≡◌, List, ℕ, ◌+◌, ◌<◌, ◌≤◌, length, Float}
use Rattle.std.specs.Float.{binary64}
use Rattle.std.specs.Float.Ieee.{add, sub}
use Rattle.cells.specs.Line.{Line, line, minus_zero}
use Rattle.cells.specs.Written.{Writing, written}
use Rattle.limits.specs.Limits.{Window, longest_window}
use Rattle.windows.specs.Window.{mean}
use Rattle.deviations.specs.Deviation.{square, squares_about, variance}

-- each lane with the square of a distance added: of the lane's cell, of those from a on, from its middle
abbrev pub each_plus_square : Line → ℕ → List Float → List Float → List Float
each_plus_square f a middles lanes =
    written (length lanes) (λ k. add binary64 (line lanes k) (square (sub binary64 (f (a + k)) (line middles k)))) lanes

-- for each of the N bars from i on, the squares of its last n cells about its own middle
pub record About (N n : ℕ) (f : Line) (i : ℕ) (middles squares : List Float) : Type 0 where
  pub long : length squares ≡ N
  pub lane : (j : ℕ) → j < N → line squares j ≡ squares_about minus_zero n (line middles j) f (i + j)

-- a whole window ends at bar i, the divisor is a window's, and there is room for eight bars
pub record SpreadRoom (n d i bars middles variances : ℕ) : Type 0 where
  pub window : Window n
  pub narrow : d ≤ longest_window
  pub full : n ≤ i + 1
  pub inside : i < bars
  pub middles_long : 8 ≤ middles
  pub variances_long : 8 ≤ variances

-- the means of the r bars from i on, and their variances over d, stand in the first cells of two slices
pub record Spread (n d : ℕ) (s : List Float) (i r : ℕ) (m₀ v₀ m₁ v₁ : List Float) : Type 0 where
  pub some : 0 < r
  pub few : r ≤ 8
  pub inside : i + r ≤ length s
  pub middles : Writing r (λ j. mean n (line s) (i + j)) m₀ m₁
  pub variances : Writing r (λ j. variance minus_zero d n (line s) (i + j)) v₀ v₁
