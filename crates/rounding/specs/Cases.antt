-- The leaves at small numbers and at the edges, computed from their definitions. Assumes nothing.
use Rattle.std.specs.Prelude.{◌≡◌, ◌+◌, ◌-◌, ◌^◌, true, false, List, [], ◌∷◌, map, pos, negsuc, refl, Float}
use Rattle.std.specs.Float.{nan, inf, fin}
use Rattle.std.specs.Float.Ieee.{round}
use Rattle.rounding.specs.Leaves.{plus_one, minus_one, magnitude_of, sign_of, round_to_whole}

-- no number, both infinities, both zeros, the smallest number above 0 and its negative
edges : List Float
edges =
    nan ∷ inf false ∷ inf true ∷ fin false 0 (pos 0) ∷ fin true 0 (pos 0) ∷ fin false 1 (negsuc 1073)
    ∷ fin true 1 (negsuc 1073) ∷ []

magnitudes : map magnitude_of edges
    ≡ nan ∷ inf false ∷ inf false ∷ fin false 0 (pos 0) ∷ fin false 0 (pos 0) ∷ fin false 1 (negsuc 1073)
    ∷ fin false 1 (negsuc 1073) ∷ []
unfolding edges magnitude_of
magnitudes = refl

signs : map sign_of edges ≡ nan ∷ plus_one ∷ minus_one ∷ plus_one ∷ minus_one ∷ plus_one ∷ minus_one ∷ []
unfolding edges sign_of
signs = refl

rounded_edges : map round_to_whole edges
    ≡ nan ∷ inf false ∷ inf true ∷ fin false 0 (pos 0) ∷ fin true 0 (pos 0) ∷ fin false 0 (pos 0) ∷ fin true 0 (pos 0)
    ∷ []
unfolding edges round_to_whole round
rounded_edges = refl

-- 0.5, -0.5, 1.5, 2.5, -2.5 and -0.25: a half goes away from zero, and -0.25 keeps its sign
rounded_halves : map round_to_whole (fin false 1 (negsuc 0) ∷ fin true 1 (negsuc 0) ∷ fin false 3 (negsuc 0)
    ∷ fin false 5 (negsuc 0) ∷ fin true 5 (negsuc 0) ∷ fin true 1 (negsuc 1) ∷ [])
    ≡ plus_one ∷ minus_one ∷ fin false 1 (pos 1) ∷ fin false 3 (pos 0) ∷ fin true 3 (pos 0) ∷ fin true 0 (pos 0) ∷ []
unfolding round_to_whole round
rounded_halves = refl

-- the number next below 0.5, 2 ^ 52 - 0.5, 2 ^ 52 + 1, 2 ^ 53 and the largest number
rounded_neighbours : map round_to_whole (fin false (2 ^ 53 - 1) (negsuc 53) ∷ fin false (2 ^ 53 - 1) (negsuc 0)
    ∷ fin false (2 ^ 52 + 1) (pos 0) ∷ fin false 1 (pos 53) ∷ fin false (2 ^ 53 - 1) (pos 971) ∷ [])
    ≡ fin false 0 (pos 0) ∷ fin false 1 (pos 52) ∷ fin false (2 ^ 52 + 1) (pos 0) ∷ fin false 1 (pos 53)
    ∷ fin false (2 ^ 53 - 1) (pos 971) ∷ []
unfolding round_to_whole round
rounded_neighbours = refl
