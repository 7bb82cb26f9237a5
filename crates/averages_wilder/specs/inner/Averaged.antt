-- What the functions under `wilder_rsi` ask of each other. Assumes nothing.
use Rattle.std.specs.Prelude.{◌≡◌, List, ℕ, ◌*◌, ◌≤◌, length, Float}
use Rattle.limits.specs.Limits.{Window}
use Rattle.cells.specs.Line.{Line, line}
use Rattle.cells.specs.inner.Finished.{Finished}
use Rattle.changes.specs.Changes.{gains, losses}
use Rattle.changes.specs.declared.Averages.{Averages}
use Rattle.averages_wilder.specs.Wilder.{wilder}
use Rattle.averages_wilder.specs.WilderRsi.{wilder_rsi_line}

-- a window, a cell for each bar, and eight rows of work cells
pub record Room (n bars out work : ℕ) : Type 0 where
  pub window : Window n
  pub out_long : bars ≤ out
  pub work_long : 8 * bars ≤ work

-- the index of the first k bars is written, and their work cells are cleared
abbrev pub Indexed : ℕ → List Float → ℕ → List Float → List Float → List Float → List Float → Type 0
Indexed n s = Finished (wilder_rsi_line n (line s)) (length s)

-- Wilder's averages of the gains and of the losses of f, at bar i
pub record Averaged (n : ℕ) (f : Line) (i : ℕ) (r : Averages) : Type 0 where
  pub gain : r.gain ≡ wilder n n (gains f) i
  pub loss : r.loss ≡ wilder n n (losses f) i
