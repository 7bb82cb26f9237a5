-- `sma` at small series, and answers at their edges, computed from the definitions. Assumes nothing.
use Rattle.std.specs.Prelude.{false, List, [], ◌∷◌, map, ◌≡◌, refl, suc, pos, negsuc, replicate, Float, Ok, Err}
use Rattle.std.specs.Float.{nan, fin}
use Rattle.std.specs.Float.Ieee.{round, add, sub, div, of_int, lt, eq, le, to_bits, whole}
use Rattle.limits.specs.Limits.{longest_window}
use Rattle.calls.specs.declared.Refusal.TheVariants.{OutputTooShort, ValueNotAccepted, WindowTooLong}
use Rattle.values.specs.Accepted.{accepted, tick}
use Rattle.calls.specs.Answer.{slices, checked, windowed, answered}
use Rattle.cells.specs.Line.{line, from_bar}
use Rattle.cells.specs.Recur.{recur}
use Rattle.cells.specs.Written.{written}
use Rattle.windows.specs.Window.{sum_from, running_sum}
use Rattle.averages.specs.Sma.{sma_line}

-- 1, 2, 4
short : List Float
short = fin false 1 (pos 0) ∷ fin false 1 (pos 1) ∷ fin false 1 (pos 2) ∷ []

-- n 2 gives NaN, 1.5 and 3, and n 4, which exceeds L, only NaN
sma_case : map (λ n. written 3 (sma_line n (line short)) short) (2 ∷ 4 ∷ [])
    ≡ (nan ∷ fin false 3 (negsuc 0) ∷ fin false 3 (pos 0) ∷ []) ∷ replicate 3 nan ∷ []
unfolding short sma_line running_sum recur sum_from from_bar add sub div of_int round
sma_case = refl

-- all of three bars; no bars or a window of 0 give the empty answer; a window too long, an output of two cells and a
-- value that is no tick are refused
answers : answered accepted short (2 ∷ []) 3 []
    ∷ answered accepted [] (2 ∷ []) 3 []
    ∷ answered accepted short (0 ∷ []) 3 []
    ∷ answered accepted short (suc longest_window ∷ []) 3 []
    ∷ answered accepted short (suc longest_window ∷ []) 2 []
    ∷ answered tick (fin false 1 (negsuc 0) ∷ []) (1 ∷ []) 1 []
    ∷ []
    ≡ Ok 3 ∷ Ok 0 ∷ Ok 0 ∷ Err WindowTooLong ∷ Err OutputTooShort ∷ Err ValueNotAccepted ∷ []
unfolding short slices checked windowed answered accepted tick lt eq le to_bits whole
answers = refl
