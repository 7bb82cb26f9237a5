-- What the loops that sum a window or slide a sum keep. Assumes nothing.
use Rattle.std.specs.Prelude.{◌≡◌, ℕ, ◌-◌, Float}
use Rattle.cells.specs.Line.{Line}
use Rattle.windows.specs.Window.{running_sum, sum_from}

-- ---- loops that sum

-- x is such a sum of k cells: what the loops that sum keep
pub record Summing (z : Float) (f : Line) (a k : ℕ) (x : Float) : Type 0 where
  pub is : x ≡ sum_from z f a k

-- x is the running sum of the n bars before bar i: what the loops that slide keep
pub record Running (slide : Float → Float → Float → Float) (n : ℕ) (f : Line) (i : ℕ) (x : Float) : Type 0 where
  pub is : x ≡ running_sum slide n f (i - n)
