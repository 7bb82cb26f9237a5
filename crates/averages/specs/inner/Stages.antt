-- What the functions under the averages ask of each other. Assumes nothing.
use Rattle.std.specs.Prelude.{◌≡◌, List, ℕ, ◌-◌, Float, Result, is_ok}
use Rattle.cells.specs.Line.{line}
use Rattle.windows.specs.Window.{window_sum}
use Rattle.values.specs.Accepted.{accepted}
use Rattle.values.specs.inner.Part.{Passing}
use Rattle.averages.specs.inner.Tested.{value_of}

-- the sum of the first n prices, and whether they are accepted
pub record TestedSum (s : List Float) (n : ℕ) (r : Result Float Float) : Type 0 where
  pub sum : value_of r ≡ window_sum n (line s) (n - 1)
  pub accept : Passing accepted (line s) 0 n (is_ok r)
