-- What the functions under `rsx_ss2` ask of each other. Assumes nothing.
use Rattle.std.specs.Prelude.{◌≡◌, List, ℕ, ◌*◌, ◌<◌, ◌≤◌, length, Float}
use Rattle.limits.specs.Limits.{Window, longest_period}
use Rattle.cells.specs.Line.{Line}
use Rattle.averages.specs.ExponentialSmoothing.{exponential_line}
use Rattle.changes.specs.declared.Averages.{Averages}
use Rattle.changes.specs.Changes.{gains, losses}

-- the exponential averages of the gains and of the losses of f, at bar i
pub record Averaged (alpha : Float) (f : Line) (i : ℕ) (r : Averages) : Type 0 where
  pub gain : r.gain ≡ exponential_line alpha (gains f) i
  pub loss : r.loss ≡ exponential_line alpha (losses f) i

-- what the stages ask: a bar at least, a window, a smoother period, a cell for each bar, and eight rows of work cells
pub record RsxRoom (n m : ℕ) (s : List Float) (out work : ℕ) : Type 0 where
  pub window : Window n
  pub period : m ≤ longest_period
  pub bars : 0 < length s
  pub out_long : length s ≤ out
  pub work_long : 8 * length s ≤ work
