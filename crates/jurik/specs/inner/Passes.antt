-- What the stages of `jurik_volty` ask of each other. Assumes nothing.
use Rattle.std.specs.Prelude.{◌≡◌, Bool, true, false, not, cond, ◌&&◌, List, ℕ, ◌<◌, ◌≤◌, ltb, Float}
use Rattle.std.specs.Float.{nan}
use Rattle.std.specs.Float.Ieee.{eq}
use Rattle.limits.specs.Limits.{Window}
use Rattle.cells.specs.Line.{Line, plus_zero}
use Rattle.cells.specs.Recur.{carried}
use Rattle.cells.specs.Search.{non_zero, first_bar}
use Rattle.cells.specs.Written.{Writing}
use Rattle.cells.specs.inner.Touched.{Touched}
use Rattle.averages.specs.Blend.{blend}
use Rattle.jurik.specs.declared.bar.Taken.{Taken}
use Rattle.jurik.specs.declared.bar.Taken.TheVariants.{Numbers, Nonzero}
use Rattle.jurik.specs.Jurik.{is_number, all_same, passed, jv_of, jv, price_change, smooth1, smooth2}

-- which values a pass takes: those other than 0, or numbers
abbrev pub valid_by : Taken → Float → Bool
valid_by Nonzero = non_zero
valid_by Numbers = is_number

-- what stands for the others
abbrev pub none_by : Taken → Float
none_by Nonzero = plus_zero
none_by Numbers = nan

-- valid, and not equal to x
abbrev pub differs : (Float → Bool) → Float → Float → Bool
differs valid x y = valid y && not (eq y x)

-- a pass of l bars that tests for itself whether it copies
abbrev pub tested : (Float → Bool) → Float → Float → ℕ → Line → Line
tested valid none alpha l f = passed valid none alpha (all_same valid l f) f

-- the cell of `jv` at bar i
abbrev pub jv_at : ℕ → Float → Float → Float → Float
jv_at i power last x = cond (ltb i 2) plus_zero (jv_of power last x)

-- a window, and room for the cells
pub record Ready (n l out : ℕ) : Type 0 where
  pub window : Window n
  pub out_long : l ≤ out

-- ---- both first passes in one loop

-- the averages of a line of numbers from bar 1 on, once and twice
abbrev pub blended_once : Float → Line → Line
blended_once alpha f = carried nan (blend alpha) 1 (f 1) f

abbrev pub blended_twice : Float → Line → Line
blended_twice alpha f = blended_once alpha (blended_once alpha f)

-- bar 1 is one of l bars, and has a number: the averages start there
pub record Started (l : ℕ) (f : Line) : Type 0 where
  pub bars : 1 < l
  pub number : is_number (f 1) ≡ true

-- one of l bars has a number that is not equal to that of bar 1
abbrev pub Other : ℕ → Line → Type 0
Other l f = first_bar (λ j. differs is_number (f 1) (f j)) l < l

-- both: the pass averages
pub record Differing (l : ℕ) (f : Line) : Type 0 where
  pub start : Started l f
  pub other : Other l f

-- `jv` of such averages is written, and where r says so the first of them differ
pub record JvWritten (r : Bool) (l : ℕ) (alpha power : Float) (f : Line) (old now : List Float) : Type 0 where
  pub cells : Writing l (jv power (blended_twice alpha f)) old now
  pub other : r ≡ true → Other l (blended_once alpha f)

-- r says that both passes average, and then `jv` is written
pub record BothAverage (r : Bool) (n l : ℕ) (power : Float) (f : Line) (old now : List Float) : Type 0 where
  pub used : Touched l old now
  pub cells : r ≡ true → Writing l (jv power (smooth2 false false n f)) old now
  pub first : r ≡ true → all_same is_number l (price_change f) ≡ false
  pub second : r ≡ true → all_same is_number l (smooth1 false n f) ≡ false
