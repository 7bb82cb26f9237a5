-- What moving bytes to the front of a block means, and what the loop that moves them keeps. Assumes nothing.
use Rattle.std.specs.Prelude.{◌≡◌, List, ℕ, ◌-◌, take}
use Rattle.std.proofs.Math.Seq.{slice}

-- the first r bytes are now those from `from` to `to`
pub record Kept (from to : ℕ) (old : List ℕ) (r : ℕ) (now : List ℕ) : Type 0 where
  pub count : r ≡ to - from
  pub bytes : take r now ≡ slice from to old
