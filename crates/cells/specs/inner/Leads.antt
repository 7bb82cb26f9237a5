-- A value written before a line's first bar. Assumes nothing.
use Rattle.std.specs.Prelude.{◌≡◌, List, ℕ, min}
use Rattle.cells.specs.Written.{Writing}

module _ {A : Type 0} where
  -- d is written before bar r, which is bar b, or the end where the bars end before it
  pub record Led (b bars : ℕ) (d : A) (r : ℕ) (old now : List A) : Type 0 where
    pub first : r ≡ min b bars
    pub lead : Writing r (λ i. d) old now
