-- What the functions that write a smoothed line ask of each other. Assumes nothing.
use Rattle.std.specs.Prelude.{◌≡◌, List, ℕ, ◌+◌, ◌<◌, ◌≤◌, length, set, Float}
use Rattle.cells.specs.Line.{Line, line}
use Rattle.cells.specs.Recur.{recur}
use Rattle.cells.specs.Written.{Writing}
use Rattle.averages.specs.Blend.{smooth_line}
use Rattle.averages.specs.inner.Blending.{blend_from}

-- a cell more, of those from bar a on that go on from the cell x: bar a + k
abbrev pub stored : Float → Line → Float → ℕ → ℕ → List Float → List Float
stored alpha f x a k cells = set cells (a + k) (blend_from alpha x f a (k + 1))

-- `count` of them are stored
pub record BlendedRest (alpha : Float) (f : Line) (x : Float) (a count : ℕ) (old now : List Float) : Type 0 where
  pub cells : now ≡ recur old (stored alpha f x a) count

-- a cell more of two parts: those from bar a on that go on from x, and those from bar b on that go on from y
abbrev pub both_stored : Float → Line → Float → Float → ℕ → ℕ → ℕ → List Float → List Float
both_stored alpha f x y a b k cells = stored alpha f y b k (stored alpha f x a k cells)

-- `count` cells of each are stored; u and v are their last ones
pub record BlendedBoth (alpha : Float) (f : Line) (x y : Float) (a b count : ℕ) (old : List Float) (u v : Float)
    (now : List Float) : Type 0 where
  pub lower : u ≡ blend_from alpha x f a count
  pub upper : v ≡ blend_from alpha y f b count
  pub cells : now ≡ recur old (both_stored alpha f x y a b) count

-- every cell of a smoothed line is written to `now`
abbrev pub Smooth : List Float → Float → ℕ → Float → List Float → List Float → Type 0
Smooth s alpha first seed old now = Writing (length s) (smooth_line alpha first seed (line s)) old now

-- the first k of those cells stand there, up to the seed or before it, and there is room for the rest
pub record Smoothing (s : List Float) (alpha : Float) (first : ℕ) (seed : Float) (k : ℕ) (now : List Float) : Type 0
  where
    pub inside : first < length s
    pub room : length s ≤ length now
    pub cells : Writing k (smooth_line alpha first seed (line s)) now now
