-- What is known of a call of `rolling_rank` where its cells are due. Assumes nothing.
use Rattle.std.specs.Prelude.{◌≡◌, true, List, ℕ, ◌*◌, ◌≤◌, length, Float}
use Rattle.limits.specs.Limits.{longest_series}
use Rattle.values.specs.Accepted.{accepted, all}

-- what is known of a rolling rank where its cells are due
pub record RankRoom (s : List Float) (out work : ℕ) : Type 0 where
  pub short : length s ≤ longest_series
  pub out_long : length s ≤ out
  pub work_long : 8 * length s ≤ work
  pub values : all accepted s ≡ true
