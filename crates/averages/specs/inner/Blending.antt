-- What the functions under the exponential averages ask of each other. Assumes nothing.
use Rattle.std.specs.Prelude.{◌≡◌, List, ℕ, ◌+◌, ◌-◌, ◌*◌, ◌/◌, length, Float}
use Rattle.cells.specs.Line.{Line, line}
use Rattle.cells.specs.Recur.{recur}
use Rattle.averages.specs.Blend.{blend, smooth_line}

-- the cell after k bars more, from bar a on
abbrev pub blend_from : Float → Float → Line → ℕ → ℕ → Float
blend_from alpha last f a = recur last (λ k cell. blend alpha cell (f (a + k)))

-- x is the cell before bar i: what the loop that blends keeps
pub record Blending (alpha : Float) (a : ℕ) (seed : Float) (f : Line) (i : ℕ) (x : Float) : Type 0 where
  pub is : x ≡ smooth_line alpha a seed f (i - 1)

-- how many bars the first half of those after bar `first` has: eights only, so that the second has up to 15 more
abbrev pub half : ℕ → ℕ → ℕ
half bars first = 8 * ((bars - first - 1) / 16)

-- x is the cell half way through the bars after the seed
abbrev pub Middle : List Float → Float → ℕ → Float → Float → Type 0
Middle s alpha first seed x = Blending alpha first seed (line s) (first + 1 + half (length s) first) x
