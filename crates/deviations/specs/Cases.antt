-- Deviations of small series, computed from the definition. Assumes nothing.
use Rattle.std.specs.Prelude.{◌≡◌, refl, [], ◌∷◌, pos}
use Rattle.std.specs.Float.{nan}
use Rattle.std.specs.Float.Ieee.{round, add, sub, mul, div, of_int}
use Rattle.rounding_root.specs.Root.{sqrt_of}
use Rattle.cells.specs.Line.{plus_zero, minus_zero, from_bar}
use Rattle.cells.specs.Shown.{num, prices, cells_of}
use Rattle.windows.specs.Window.{sum_from}
use Rattle.deviations.specs.Deviation.{deviation}

-- 2, 4, 10 with n 2: over n the deviations are 1 and 3; of 0, 8, 4 with n 3 over n - 1 it is 4; one cell over 0 has
-- none
deviation_cases : cells_of (deviation minus_zero 2 2) (prices (pos 2 ∷ pos 4 ∷ pos 10 ∷ []))
    ∷ cells_of (deviation minus_zero 2 3) (prices (pos 0 ∷ pos 8 ∷ pos 4 ∷ []))
    ∷ cells_of (deviation minus_zero 0 1) (prices (pos 5 ∷ []))
    ∷ cells_of (deviation plus_zero 1 1) (prices (pos 5 ∷ []))
    ∷ []
    ≡ (nan ∷ num 1 ∷ num 3 ∷ []) ∷ (nan ∷ nan ∷ num 4 ∷ []) ∷ (nan ∷ []) ∷ (plus_zero ∷ []) ∷ []
unfolding deviation sqrt_of sum_from from_bar add sub mul div of_int round
deviation_cases = refl
