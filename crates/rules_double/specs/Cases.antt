-- The double rule at small series, and its answers at their edges, computed from the definitions. Assumes nothing.
use Rattle.std.specs.Prelude.{true, false, [], ◌∷◌, map, ◌≡◌, refl, suc, pos, negsuc, replicate, Float, Ok, Err}
use Rattle.std.specs.Float.{nan, fin}
use Rattle.std.specs.Float.Ieee.{round, add, sub, div, of_int, lt, eq, le, to_bits}
use Rattle.limits.specs.Limits.{longest_window}
use Rattle.rounding.specs.Leaves.{one, sign_of}
use Rattle.calls.specs.declared.Refusal.TheVariants.{
  OutputTooShort,
  ValueNotAccepted,
  WindowTooLong,
  WindowsOutOfOrder,
}
use Rattle.values.specs.Accepted.{accepted}
use Rattle.calls.specs.Answer.{slices, checked, windowed}
use Rattle.cells.specs.Line.{plus_zero, from_bar}
use Rattle.cells.specs.Recur.{recur}
use Rattle.windows.specs.Window.{sum_from, running_sum}
use Rattle.rules_double.specs.Double.{running_mean, double_line, double_answer}
use Rattle.cells.specs.Shown.{prices, cells_of}

-- the positions
abbrev flat : Float
flat = plus_zero

abbrev up : Float
up = one false

abbrev down : Float
down = one true

-- the number next below 0, whose half rounds to -0.0
abbrev least : Float
least = fin true 1 (negsuc 1073)

-- 10, 12, 12, 11 with n 1 and m 2 gives 0, 1, 1, -1: a tie gives 1; and no position where m exceeds L
double_cases : map (λ m. cells_of (double_line 1 m) (prices (pos 10 ∷ pos 12 ∷ pos 12 ∷ pos 11 ∷ []))) (2 ∷ 5 ∷ [])
    ≡ (flat ∷ up ∷ up ∷ down ∷ []) ∷ replicate 4 flat ∷ []
unfolding double_line running_mean running_sum recur sum_from from_bar sign_of add sub div of_int round
double_cases = refl

-- a long average of -0.0: 0.0 less -0.0 is 0.0, and the number next below 0 less -0.0 is itself
double_edges : cells_of (double_line 1 2) (least ∷ plus_zero ∷ []) ∷ cells_of (double_line 1 2) (plus_zero ∷ least ∷ [])
    ∷ []
    ≡ (flat ∷ up ∷ []) ∷ (flat ∷ down ∷ []) ∷ []
unfolding double_line running_mean running_sum recur sum_from from_bar sign_of add sub div of_int round
double_edges = refl

-- windows in order; out of order; none, and no bars, before that; too long before both; an output too short and a NaN
-- before all
double_answers : double_answer (plus_zero ∷ []) 1 2 1
    ∷ double_answer (plus_zero ∷ []) 2 2 1
    ∷ double_answer (plus_zero ∷ []) 3 0 1
    ∷ double_answer (plus_zero ∷ []) 0 0 1
    ∷ double_answer [] 2 1 0
    ∷ double_answer [] (suc longest_window) 0 0
    ∷ double_answer (plus_zero ∷ []) 2 (suc longest_window) 1
    ∷ double_answer (plus_zero ∷ []) 2 2 0
    ∷ double_answer (nan ∷ []) 2 2 1
    ∷ []
    ≡ Ok 1
    ∷ Err WindowsOutOfOrder
    ∷ Ok 0
    ∷ Ok 0
    ∷ Ok 0
    ∷ Err WindowTooLong
    ∷ Err WindowTooLong
    ∷ Err OutputTooShort
    ∷ Err ValueNotAccepted
    ∷ []
unfolding double_answer slices checked windowed accepted lt eq le to_bits
double_answers = refl
