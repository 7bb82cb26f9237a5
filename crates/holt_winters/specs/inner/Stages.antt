-- What the stages of Holt-Winters smoothing ask of each other. Assumes nothing.
use Rattle.std.specs.Prelude.{List, ℕ, ◌*◌, ◌≤◌, length, Float}
use Rattle.limits.specs.Limits.{Window}
use Rattle.cells.specs.Line.{Line}
use Rattle.cells.specs.Written.{Writing}
use Rattle.cells.specs.inner.Scratch.{Scratch}
use Rattle.holt_winters.specs.declared.Weights.{Weights}
use Rattle.holt_winters.specs.HoltWinters.{first_fit, fit_line, holt_winters_line}

-- a season that is not longer than the series, a cell for each bar, and eight rows of work cells
pub record SeasonRoom (m : ℕ) (s : List Float) (out work : ℕ) : Type 0 where
  pub window : Window m
  pub whole : m ≤ length s
  pub out_long : length s ≤ out
  pub work_long : 8 * length s ≤ work

-- of l bars, k prices are copied, and the last row of work cells has their seasonal parts in the first season
pub record First (average : Float) (f : Line) (l k : ℕ) (out₀ out₁ work₀ work₁ : List Float) : Type 0 where
  pub cells : Writing k f out₀ out₁
  pub seasons : Scratch l k (λ i. (first_fit average (f i)).season) work₀ work₁

-- of l bars, k cells are written, and the last row of work cells has their seasonal parts
pub record Smoothed (m : ℕ) (w : Weights) (f : Line) (l k : ℕ) (out₀ out₁ work₀ work₁ : List Float) : Type 0 where
  pub cells : Writing k (holt_winters_line m w f) out₀ out₁
  pub seasons : Scratch l k (λ i. (fit_line m w f i).season) work₀ work₁
