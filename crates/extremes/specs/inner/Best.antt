-- The best of neighbouring cells, put together from the best of its parts: of numbers `pick_of` picks the same in any
-- grouping. Assumes nothing.
use Rattle.std.specs.Prelude.{◌≡◌, Bool, false, ℕ, ◌-◌, ◌<◌, ◌≤◌, Float}
use Rattle.std.specs.Float.Ieee.{is_nan}
use Rattle.cells.specs.Line.{Line}
use Rattle.extremes.specs.Extreme.{pick_of, pick_from}

-- the cells before bar `bars` are numbers
pub record Numbers (f : Line) (bars : ℕ) : Type 0 where
  pub at : (i : ℕ) → i < bars → is_nan (f i) ≡ false

-- x is the best of the cells of bars a to e
pub record Best (high : Bool) (f : Line) (a e : ℕ) (x : Float) : Type 0 where
  pub order : a ≤ e
  pub is : x ≡ pick_from (pick_of high) f a (e - a)
