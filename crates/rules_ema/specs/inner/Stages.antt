-- What the stages of the exponential rule ask of each other. Assumes nothing.
use Rattle.std.specs.Prelude.{◌≡◌, List, ℕ, ◌*◌, ◌<◌, ◌≤◌, length, Float}
use Rattle.cells.specs.Line.{line}
use Rattle.windows.specs.Window.{mean}
use Rattle.window_means.specs.inner.Averaged.{Averaged}

-- the means of s stand in `now`, and the average that begins at bar `start` begins with `seed`; there are `work` cells
-- of work
pub record Started (n : ℕ) (s : List Float) (start : ℕ) (seed : Float) (now : List Float) (work : ℕ) : Type 0 where
  pub means : Averaged n s (mean n (line s)) now
  pub inside : start < length s
  pub first : seed ≡ mean n (mean n (line s)) start
  pub rows : 8 * length s ≤ work
