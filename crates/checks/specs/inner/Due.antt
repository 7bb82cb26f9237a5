-- Whether cells are to be written, once a call is checked. Assumes nothing.
use Rattle.std.specs.Prelude.{◌≡◌, Bool, true, cond, List, ℕ, ◌*◌, ◌≤◌, ltb, length, Float}
use Rattle.limits.specs.Limits.{longest_series, Window}
use Rattle.values.specs.Accepted.{accepted, all}
use Rattle.cells.specs.Line.{plus_zero}
use Rattle.cells.specs.Written.{written}
use Rattle.calls.specs.Answer.{Answer, count_of, cleared_of}

-- r says whether a call of l bars has cells; the work slice of an answer with none is cleared
pub record CellsDue (due : Answer) (l : ℕ) (r : Bool) (work₀ work₁ : List Float) : Type 0 where
  pub some : r ≡ ltb 0 (count_of due)
  pub work : work₁ ≡ written (cond r 0 (cleared_of due (8 * l))) (λ i. plus_zero) work₀
  pub long : length work₁ ≡ length work₀

-- what the stages of a rule ask, for a window of n bars: accepted prices, a cell for each of them, and rows of as
-- many work cells
pub record Priced (rows n : ℕ) (s : List Float) (out work : ℕ) : Type 0 where
  pub window : Window n
  pub short : length s ≤ longest_series
  pub out_long : length s ≤ out
  pub work_long : rows * length s ≤ work
  pub values : all accepted s ≡ true
