-- One bar of the exponential rule: what is written. Assumes nothing.
use Rattle.std.specs.Prelude.{◌≡◌, List, ℕ, ◌*◌, ◌<◌, ◌≤◌, length, set, Float}
use Rattle.std.specs.Float.{binary64}
use Rattle.std.specs.Float.Ieee.{sub}
use Rattle.rounding.specs.Leaves.{sign_of}
use Rattle.cells.specs.Line.{line, plus_zero}
use Rattle.cells.specs.inner.Scratch.{put_at}

-- bar i is one of s, and has a cell of `out` and eight of `work`
pub record BarRoom (s : List Float) (i out work : ℕ) : Type 0 where
  pub inside : i < length s
  pub cell : i < out
  pub rows : 8 * length s ≤ work

-- its position is written, and its work cells are cleared
pub record PositionPut (s : List Float) (i : ℕ) (average : Float) (out₀ out₁ work₀ work₁ : List Float) : Type 0 where
  pub position : out₁ ≡ set out₀ i (sign_of (sub binary64 (line s i) average))
  pub cleared : work₁ ≡ put_at (length s) i plus_zero work₀

-- the first k of `bars` bars have cells
pub record LeadRoom (bars k out work : ℕ) : Type 0 where
  pub inside : k ≤ bars
  pub cells : k ≤ out
  pub rows : 8 * bars ≤ work
