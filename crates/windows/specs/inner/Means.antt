-- Means by running sums. Assumes nothing.
use Rattle.std.specs.Prelude.{◌≡◌, cond, List, ℕ, ◌+◌, ◌-◌, ◌≤◌, leb, length, Float}
use Rattle.cells.specs.Line.{Line, line}
use Rattle.limits.specs.Limits.{Window}
use Rattle.windows.specs.Window.{window_sum, over, running_sum, add_difference}
use Rattle.windows.specs.inner.RunningSums.{running_sums}

-- the running sum of the last n bars over n
abbrev pub running_mean : ℕ → Line → Line
running_mean n f i = over n (running_sum add_difference n f (i + 1 - n))

-- f from bar b on, and before it what stands in `old`
unfoldable pub on_from : ℕ → Line → List Float → Line
on_from b f old i = cond (leb b i) (f i) (line old i)

-- the running sum of each bar's window over n, which is 0.0 before bar n - 1
abbrev pub running_means : ℕ → Line → Line
running_means n f i = over n (running_sums n f i)

-- `sum` is that of the first n bars, and there is room for all cells
pub record Summed (s : List Float) (n : ℕ) (sum : Float) (cells : ℕ) : Type 0 where
  pub window : Window n
  pub inside : n ≤ length s
  pub room : length s ≤ cells
  pub is : sum ≡ window_sum n (line s) (n - 1)
