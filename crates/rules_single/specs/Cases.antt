-- The one-average rule at small series, computed from the definition. Assumes nothing.
use Rattle.std.specs.Prelude.{true, false, [], ◌∷◌, map, ◌≡◌, refl, pos, negsuc, replicate, Float, Ok, Err}
use Rattle.std.specs.Float.{fin}
use Rattle.std.specs.Float.Ieee.{round, add, sub, div, of_int, lt, eq, le, to_bits}
use Rattle.rounding.specs.Leaves.{one, sign_of}
use Rattle.calls.specs.declared.Refusal.TheVariants.{WorkTooShort}
use Rattle.values.specs.Accepted.{accepted}
use Rattle.calls.specs.Answer.{slices, checked, windowed, answered}
use Rattle.cells.specs.Line.{plus_zero, from_bar}
use Rattle.windows.specs.Window.{sum_from, window_sum, mean}
use Rattle.rules_single.specs.Single.{single_line}
use Rattle.cells.specs.Shown.{prices, cells_of}

-- the positions
abbrev flat : Float
flat = plus_zero

abbrev up : Float
up = one false

-- the number next below 0, whose half rounds to -0.0
abbrev least : Float
least = fin true 1 (negsuc 1073)

-- 1, 3, 5 with n 2 gives 0, 0, 1; at 3, 3, 3 the price is its average; before bar 2 there is no position, even for n
-- 2 of two bars
single_cases : map (λ s. cells_of (single_line 2) (prices s))
    ((pos 1 ∷ pos 3 ∷ pos 5 ∷ []) ∷ (pos 3 ∷ pos 3 ∷ pos 3 ∷ []) ∷ (pos 4 ∷ pos 5 ∷ []) ∷ [])
    ≡ (flat ∷ flat ∷ up ∷ []) ∷ (flat ∷ flat ∷ up ∷ []) ∷ (flat ∷ flat ∷ []) ∷ []
unfolding single_line mean window_sum sum_from from_bar sign_of add sub div of_int eq round
single_cases = refl

-- an average that rounds to -0.0 counts as 0.0; with n 1 the price is its own average
single_edges : cells_of (single_line 2) (plus_zero ∷ least ∷ plus_zero ∷ [])
    ∷ cells_of (single_line 1) (least ∷ plus_zero ∷ []) ∷ []
    ≡ replicate 3 flat ∷ (up ∷ flat ∷ []) ∷ []
unfolding single_line mean window_sum sum_from from_bar sign_of add sub div of_int eq round
single_edges = refl

-- a work slice of 8 cells for each bar is enough, and one less is not
work_answers : map (λ work. answered accepted (plus_zero ∷ []) (1 ∷ []) 1 (work ∷ [])) (8 ∷ 7 ∷ []) ≡ Ok 1
    ∷ Err WorkTooShort ∷ []
unfolding answered slices checked windowed accepted lt eq le to_bits
work_answers = refl
