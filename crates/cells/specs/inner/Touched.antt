-- A slice of which only the first cells were used. Assumes nothing.
use Rattle.std.specs.Prelude.{◌≡◌, List, ℕ, length, drop}

-- the cells of `now` from k on are those of `old`
pub record Touched {A : Type 0} (k : ℕ) (old now : List A) : Type 0 where
  pub rest : drop k now ≡ drop k old
  pub long : length now ≡ length old
