-- The cells of bars side by side. Assumes nothing.
use Rattle.std.specs.Prelude.{◌≡◌, List, ℕ, ◌+◌, ◌<◌, length, Float}
use Rattle.std.specs.Float.{binary64}
use Rattle.std.specs.Float.Ieee.{add}
use Rattle.cells.specs.Line.{Line, line}
use Rattle.cells.specs.Written.{written}

-- the cells of a line at the N bars from i on, each in a lane of its own
pub record LanesOf (N : ℕ) (f : Line) (i : ℕ) (lanes : List Float) : Type 0 where
  pub long : length lanes ≡ N
  pub lane : (k : ℕ) → k < N → line lanes k ≡ f (i + k)

-- each lane with one more cell: the cells from a on
abbrev pub each_plus : Line → ℕ → List Float → List Float
each_plus f a lanes = written (length lanes) (λ k. add binary64 (line lanes k) (f (a + k))) lanes
