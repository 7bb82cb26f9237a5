-- What the loops that count keep and promise. Assumes nothing.
use Rattle.std.specs.Prelude.{◌≡◌, Bool, ℕ, ◌≤◌, Float}
use Rattle.cells.specs.Line.{Line}
use Rattle.ranks.specs.Counted.{count_from}

-- x of the k cells from a on passed
pub record Counting (test : Float → Bool) (f : Line) (a k x : ℕ) : Type 0 where
  pub is : x ≡ count_from test f a k
  pub most : x ≤ k

-- a closure of which `gives x r` says that r may be its result answers as the test does
pub record Answers (test : Float → Bool) (gives : Float → Bool → Type 0) : Type 0 where
  pub as_test : (x : Float) (r : Bool) → gives x r → r ≡ test x
