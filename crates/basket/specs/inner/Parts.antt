-- Positions that are made part by part. Assumes nothing.
use Rattle.std.specs.Prelude.{◌≡◌, true, cond, List, ℕ, ◌*◌, ◌<◌, ◌≤◌, eqb, ℤ, nat_abs, ◌*ℤ◌, length, Float, Ok}
use Rattle.limits.specs.Limits.{longest_series, Window}
use Rattle.values.specs.Accepted.{accepted, all}
use Rattle.cells.specs.Line.{Line, line}
use Rattle.cells.specs.inner.Touched.{Touched}
use Rattle.calls.specs.Answer.{count_of}
use Rattle.rules.specs.Position.{whole_position}
use Rattle.rules_single.specs.Single.{single_line}
use Rattle.rules_double.specs.Double.{double_answer}
use Rattle.rules_middle.specs.Middle.{mid_line}
use Rattle.basket.specs.Basket.{groups, rows, largest_weight}
use Rattle.basket.specs.inner.Adding.{Light, RowsAdded}

-- the bars of a part; src/parts.rt has a constant of the same number
abbrev pub part_bars : ℕ
part_bars = 4096

-- one average, or the middle: rules that sum each window afresh
abbrev pub afresh_line : ℕ → ℕ → Line → Line
afresh_line rule n f = cond (eqb rule 1) (single_line n f) (mid_line n f)

-- prices, a weight and a row, and slices that have room: cells from bar `at` on are to be added
pub record PartRoom (prices : List Float) (n : ℕ) (weight : ℤ) (q at : ℕ) (out : List ℤ) (block work : ℕ) : Type 0 where
  pub window : Window n
  pub short : length prices ≤ longest_series
  pub values : all accepted prices ≡ true
  pub work_long : 2 * length prices ≤ work
  pub block_long : part_bars ≤ block
  pub row : q < groups
  pub light : nat_abs weight ≤ largest_weight
  pub room : rows * length prices ≤ length out
  pub small : Light (length prices) at out

-- the positions of the bars from `at` to r - 1 were added
pub record PartAdded (prices : List Float) (rule n : ℕ) (weight : ℤ) (q at r : ℕ) (out₀ out₁ : List ℤ)
    (block₀ block₁ work₀ work₁ : List Float) : Type 0 where
  pub cells : RowsAdded (length prices) q at r (λ j. weight *ℤ whole_position (afresh_line rule n (line prices) j)) out₀
      out₁
  pub work : Touched (2 * length prices) work₀ work₁
  pub block : length block₁ ≡ length block₀

-- an answered call of the double rule, a weight and a row, and slices that have room
pub record DoubleRoom (prices : List Float) (n m : ℕ) (weight : ℤ) (q : ℕ) (out : List ℤ) (work : ℕ) : Type 0 where
  pub answered : double_answer prices n m (length prices) ≡ Ok (count_of (double_answer prices n m (length prices)))
  pub work_long : length prices ≤ work
  pub row : q < groups
  pub light : nat_abs weight ≤ largest_weight
  pub room : rows * length prices ≤ length out
  pub small : Light (length prices) 0 out
