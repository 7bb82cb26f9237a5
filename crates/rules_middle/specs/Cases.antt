-- The middle rule at small series, computed from the definition. Assumes nothing.
use Rattle.std.specs.Prelude.{true, false, [], ◌∷◌, ◌≡◌, refl, pos, negsuc, replicate, Float}
use Rattle.std.specs.Float.Ieee.{round, add, sub, div, of_int, lt, eq}
use Rattle.rounding.specs.Leaves.{one, sign_of}
use Rattle.cells.specs.Line.{plus_zero, from_bar}
use Rattle.windows.specs.Window.{sum_from, window_sum, mean}
use Rattle.extremes.specs.Extreme.{pick_from, extreme}
use Rattle.rules_middle.specs.Middle.{mid_line}
use Rattle.cells.specs.Shown.{prices, cells_of}

-- the positions
abbrev flat : Float
flat = plus_zero

abbrev up : Float
up = one false

abbrev down : Float
down = one true

-- 1, 3, 5, 2 with n 2 has the means 0, 2, 4, 3.5; -2, 2, 4 has the means 0, 0, 3, of which the lowest is 0; 5 with n
-- 1 is its own middle
mid_cases : cells_of (mid_line 2) (prices (pos 1 ∷ pos 3 ∷ pos 5 ∷ pos 2 ∷ []))
    ∷ cells_of (mid_line 2) (prices (negsuc 1 ∷ pos 2 ∷ pos 4 ∷ []))
    ∷ cells_of (mid_line 1) (prices (pos 5 ∷ []))
    ∷ []
    ≡ (flat ∷ flat ∷ up ∷ down ∷ []) ∷ replicate 3 flat ∷ (up ∷ []) ∷ []
unfolding mid_line extreme pick_from mean window_sum sum_from from_bar sign_of add sub div of_int lt eq round
mid_cases = refl
