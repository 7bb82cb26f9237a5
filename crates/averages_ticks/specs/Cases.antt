-- `tick_mean` at small series, computed from the definition. Assumes nothing.
use Rattle.std.specs.Prelude.{true, false, List, [], ◌∷◌, map, ◌≡◌, refl, ℤ, pos, negsuc, replicate}
use Rattle.std.specs.Float.{fin}
use Rattle.std.specs.Float.Ieee.{to_signed}
use Rattle.rounding.specs.Whole.{total}
use Rattle.cells.specs.Line.{line, from_bar}
use Rattle.cells.specs.Written.{written}
use Rattle.averages_ticks.specs.Nearest.{half_away}
use Rattle.averages_ticks.specs.TickMean.{to_tick, tick_mean_line}

abbrev halves : List ℤ
halves = pos 5 ∷ pos 7 ∷ pos 1 ∷ negsuc 0 ∷ negsuc 4 ∷ negsuc 6 ∷ []

abbrev thirds : List ℤ
thirds = pos 4 ∷ pos 5 ∷ negsuc 4 ∷ []

-- n 2 gives 0 and 2 for 2 and 3, and 0 and -2 for their negatives: a half goes to the even tick
tick_case : map (λ s. written 2 (tick_mean_line 2 (line (fin s 1 (pos 1) ∷ fin s 3 (pos 0) ∷ [])))
    (replicate 2 (pos 7))) (false ∷ true ∷ [])
    ≡ (pos 0 ∷ pos 2 ∷ []) ∷ (pos 0 ∷ negsuc 1 ∷ []) ∷ []
unfolding tick_mean_line total to_tick from_bar to_signed
tick_case = refl

-- 5/2, 7/2, 1/2 and below zero -1/2, -5/2, -7/2: to the even tick, and by `half_away` away from zero; 4/3, 5/3 and -5/3
-- have one nearest tick
rounded : (map (λ z. to_tick z 2) halves ≡ pos 2 ∷ pos 4 ∷ pos 0 ∷ pos 0 ∷ negsuc 1 ∷ negsuc 3 ∷ [])
    × (map (λ z. half_away z 2) halves ≡ pos 3 ∷ pos 4 ∷ pos 1 ∷ negsuc 0 ∷ negsuc 2 ∷ negsuc 3 ∷ [])
    × (map (λ z. to_tick z 3) thirds ≡ pos 1 ∷ pos 2 ∷ negsuc 1 ∷ [])
    × (map (λ z. half_away z 3) thirds ≡ pos 1 ∷ pos 2 ∷ negsuc 1 ∷ [])
unfolding to_tick
rounded = (refl, refl, refl, refl)
