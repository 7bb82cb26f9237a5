-- The exponential rule by running sums, where they decide every bar. Assumes nothing.
use Rattle.std.specs.Prelude.{◌≡◌, Bool, true, List, ℕ, ◌+◌, ◌-◌, ◌*◌, ◌<◌, ◌≤◌, length, Float}
use Rattle.std.specs.Float.{binary64}
use Rattle.std.specs.Float.Ieee.{add, sub}
use Rattle.limits.specs.Limits.{Window}
use Rattle.rounding.specs.Leaves.{sign_of}
use Rattle.cells.specs.Line.{Line, line, plus_zero}
use Rattle.cells.specs.Recur.{carried}
use Rattle.cells.specs.Written.{Writing}
use Rattle.cells.specs.inner.Touched.{Touched}
use Rattle.cells.specs.inner.Finished.{Finished}
use Rattle.checks.specs.inner.Due.{Priced}
use Rattle.windows.specs.Window.{over, window_sum, mean}
use Rattle.averages.specs.Blend.{blend, ema_alpha}
use Rattle.windows.specs.inner.Means.{running_means}
use Rattle.rules_ema.specs.SingleEma.{single_ema_from}
use Rattle.rules_ema.specs.inner.Far.{decided}

-- the sum of n bars: at bar `start` summed afresh, then each bar adds its difference
unfoldable pub slid_from : ℕ → ℕ → Line → Line
slid_from start n f =
    carried plus_zero (add binary64) start (window_sum n f start) (λ i. sub binary64 (f i) (f (i - n)))

-- the average by such sums, which starts with the mean of the means by running sums
unfoldable pub running_ema : ℕ → ℕ → Line → Line
running_ema start n f =
    carried plus_zero (blend (ema_alpha n)) start (mean n (running_means n f) start)
    (λ i. over n (slid_from start n f i))

-- of l bars: a price that is farther than d from that average is on the same side of it as of the rule's own
pub record Decides (d : Float) (start n : ℕ) (f : Line) (l : ℕ) : Type 0 where
  pub position : (i : ℕ) → (start ≤ i) × (i < l) → decided d (f i) (running_ema start n f i) ≡ true
      → sign_of (sub binary64 (f i) (running_ema start n f i)) ≡ single_ema_from start n f i

-- the first 2n - 1 of l bars have cells
pub record HeadRoom (n l out : ℕ) : Type 0 where
  pub window : Window n
  pub inside : 2 * n - 1 ≤ l
  pub room : 2 * n - 1 ≤ out

-- their means by running sums are written, and `seed` is the mean of the last n of them
pub record HeadWritten (n : ℕ) (f : Line) (seed : Float) (old now : List Float) : Type 0 where
  pub cells : Writing (2 * n - 1) (running_means n f) old now
  pub first : seed ≡ mean n (running_means n f) (2 * n - 2)

-- the average begins at bar `start` of s with the mean of the means by running sums, and d decides; there are `out`
-- cells, and `work` of work
pub record StartedByMargins (n : ℕ) (s : List Float) (start : ℕ) (seed d : Float) (out work : ℕ) : Type 0 where
  pub prices : Priced 8 n s out work
  pub full : n ≤ start + 1
  pub inside : start < length s
  pub first : seed ≡ mean n (running_means n (line s)) start
  pub decides : Decides d start n (line s) (length s)

-- r says that all l bars are finished
pub record FinishedIf (r : Bool) (f : Line) (l : ℕ) (out₀ out₁ work₀ work₁ : List Float) : Type 0 where
  pub used : Touched l out₀ out₁
  pub rows : Touched (8 * l) work₀ work₁
  pub all : r ≡ true → Finished f l l out₀ out₁ work₀ work₁
