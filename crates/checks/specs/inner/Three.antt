-- The table of refusals for three series or three outputs, and what is known of three series that it let pass.
-- Assumes nothing.
use Rattle.std.specs.Prelude.{◌≡◌, true, List, ℕ, ◌*◌, ◌≤◌, length, Float}
use Rattle.values.specs.Accepted.{accepted, all}
use Rattle.calls.specs.inner.Room.{AtLeast}

-- ---- what is known where a count was answered

-- the values of three series are accepted
abbrev pub ValuesOfThree : List Float → List Float → List Float → Type 0
ValuesOfThree s t u = (all accepted s ≡ true) × (all accepted t ≡ true) × (all accepted u ≡ true)

-- three series of one length with accepted values, and an output and a work slice that have room for it
pub record Three (s t u : List Float) (out : ℕ) (work : List ℕ) : Type 0 where
  pub values : ValuesOfThree s t u
  pub second : length t ≡ length s
  pub third : length u ≡ length s
  pub out_long : length s ≤ out
  pub work_long : AtLeast (8 * length s) work
