-- The highest and the lowest of the last n cells. Assumes nothing.
use Rattle.std.specs.Prelude.{Bool, true, false, cond, ℕ, zero, suc, ◌+◌, ◌-◌, Float}
use Rattle.std.specs.Float.Ieee.{lt}
use Rattle.cells.specs.Line.{Line, plus_zero, from_bar}

-- the larger of two, the first of equals; and the smaller
abbrev pub larger : Float → Float → Float
larger x y = cond (lt x y) y x

abbrev pub smaller : Float → Float → Float
smaller x y = cond (lt y x) y x

-- the larger where the highest is asked, the smaller where the lowest is
abbrev pub pick_of : Bool → Float → Float → Float
pick_of true = larger
pick_of false = smaller

-- the cells f a, f (a + 1), .., f (a + k), joined from left to right by `pick`
unfoldable pub pick_from : (Float → Float → Float) → Line → ℕ → ℕ → Float
pick_from pick f a zero = f a
pick_from pick f a (suc k) = pick (pick_from pick f a k) (f (a + suc k))

-- the highest of the last n cells by `larger`, the lowest by `smaller`; 0.0 before bar n - 1
unfoldable pub extreme : (Float → Float → Float) → ℕ → Line → Line
extreme pick n f = from_bar (n - 1) plus_zero (λ i. pick_from pick f (i + 1 - n) (n - 1))
