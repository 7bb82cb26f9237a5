-- True ranges at small series, by hand, and the answers. Assumes nothing.
use Rattle.std.specs.Prelude.{◌≡◌, refl, false, List, [], ◌∷◌, map, pos, Float, Ok, Err, Option, None, Some}
use Rattle.std.specs.Float.{nan, fin}
use Rattle.std.specs.Float.Ieee.{neg, add, sub, lt, eq, le, of_int, to_bits}
use Rattle.rounding.specs.Leaves.{magnitude_of}
use Rattle.values.specs.Accepted.{accepted}
use Rattle.calls.specs.declared.Refusal.TheVariants.{LengthsDiffer, ValueNotAccepted}
use Rattle.calls.specs.Answer.{Answer, slices, checked}
use Rattle.cells.specs.Line.{line, plus_zero, minus_zero}
use Rattle.cells.specs.Shown.{num, prices, first_cells}
use Rattle.true_range.specs.TrueRange.{
  true_range,
  given_before,
  close_before,
  true_ranges,
  supplied,
  true_range_answer,
}

abbrev highs : List Float
highs = prices (pos 5 ∷ pos 5 ∷ pos 10 ∷ pos 3 ∷ pos 7 ∷ [])

abbrev lows : List Float
lows = prices (pos 3 ∷ pos 3 ∷ pos 8 ∷ pos 3 ∷ pos 2 ∷ [])

-- bar 0 does not look at its close; then the low is farthest from the close before, the high is, all are equal, and
-- the bar itself is longest
given_cases : first_cells 5 (true_ranges (line highs) (line lows)
    (given_before None (line (prices (pos 9 ∷ pos 9 ∷ pos 5 ∷ pos 3 ∷ pos 4 ∷ [])))))
    ≡ prices (pos 2 ∷ pos 6 ∷ pos 5 ∷ pos 0 ∷ pos 5 ∷ [])
unfolding true_ranges given_before true_range magnitude_of of_int sub add neg lt
given_cases = refl

-- the same closes, each at the bar before; the last close is no bar's
close_cases : first_cells 5 (true_ranges (line highs) (line lows)
    (close_before None (line (prices (pos 9 ∷ pos 5 ∷ pos 3 ∷ pos 4 ∷ pos 8 ∷ [])))))
    ≡ prices (pos 2 ∷ pos 6 ∷ pos 5 ∷ pos 0 ∷ pos 5 ∷ [])
unfolding true_ranges given_before true_range magnitude_of of_int sub add neg lt
close_cases = refl

-- bar 0 from 3 to 5, of a close before it: above the bar, below it, inside it, and unknown
first_cases : map (λ first. true_ranges (line highs) (line lows) (given_before first (line highs)) 0)
    (Some (num 9) ∷ Some (num 1) ∷ Some (num 4) ∷ None ∷ [])
    ≡ prices (pos 6 ∷ pos 4 ∷ pos 2 ∷ pos 2 ∷ [])
unfolding true_ranges given_before true_range magnitude_of of_int sub add neg lt
first_cases = refl

-- of a flag and a number: no flag, the smallest, and one whose low 32 bits are 0
supplied_cases : (supplied 0 nan ≡ None) × (supplied 1 nan ≡ Some nan) × (supplied 4294967296 nan ≡ Some nan)
supplied_cases = (refl, refl, refl)

abbrev one_bar : Option Float → Answer
one_bar first = true_range_answer (plus_zero ∷ []) (plus_zero ∷ []) (plus_zero ∷ []) first 1

-- unknown; 2 ^ 30, and the whole number above it; -0.0; a NaN; then a refusal that comes first, and no bars
range_answers : one_bar None ∷ one_bar (Some (fin false 1 (pos 30)))
    ∷ one_bar (Some (fin false 1073741825 (pos 0)))
    ∷ one_bar (Some minus_zero)
    ∷ one_bar (Some nan)
    ∷ true_range_answer (plus_zero ∷ []) [] (plus_zero ∷ []) (Some nan) 1
    ∷ true_range_answer [] [] [] (Some nan) 0
    ∷ true_range_answer [] [] [] None 0
    ∷ []
    ≡ Ok 1 ∷ Ok 1 ∷ Err ValueNotAccepted ∷ Err ValueNotAccepted ∷ Err ValueNotAccepted
    ∷ Err LengthsDiffer ∷ Err ValueNotAccepted ∷ Ok 0 ∷ []
unfolding true_range_answer slices checked accepted lt eq le to_bits
range_answers = refl
