-- What is known of the prices on the way to the cell half way. Assumes nothing.
use Rattle.std.specs.Prelude.{◌≡◌, Bool, List, ℕ, ◌+◌, ◌<◌, length, Float, Result, Ok, Err, is_ok}
use Rattle.cells.specs.Line.{line}
use Rattle.values.specs.Accepted.{accepted, all}
use Rattle.values.specs.inner.Part.{Passing}
use Rattle.averages.specs.inner.Blending.{Middle}

-- the sum or the cell, in `Ok` or in `Err`
abbrev pub value_of : Result Float Float → Float
value_of (Ok x) = x
value_of (Err x) = x

-- whether the prices up to the seed's bar are accepted
pub record TestedSeed (s : List Float) (first : ℕ) (t : Bool) : Type 0 where
  pub inside : first < length s
  pub accept : Passing accepted (line s) 0 (first + 1) t

-- the cell half way, and whether all prices are accepted
pub record TestedHalf (s : List Float) (alpha : Float) (first : ℕ) (seed : Float) (r : Result Float Float) : Type 0
  where
    pub middle : Middle s alpha first seed (value_of r)
    pub accept : is_ok r ≡ all accepted s
