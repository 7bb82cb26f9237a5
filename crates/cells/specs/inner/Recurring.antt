-- What the loops of a recurrence keep. Assumes nothing.
use Rattle.std.specs.Prelude.{◌≡◌, ℕ}
use Rattle.cells.specs.Recur.{recur}

module _ {A : Type 0} where
  -- x is the value after k steps: what the loops of a recurrence keep
  pub record Recurring (a : A) (step : ℕ → A → A) (k : ℕ) (x : A) : Type 0 where
    pub is : x ≡ recur a step k
