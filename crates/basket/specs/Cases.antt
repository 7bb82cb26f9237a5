-- A basket at small series, and its answers at their edges, computed from the definitions. Assumes nothing.
use Rattle.std.specs.Prelude.{List, [], ◌∷◌, ◌++◌, map, ◌≡◌, refl, ℕ, suc, ◌+◌, ◌*◌, ℤ, pos, negsuc, replicate, Float, Ok, Err}
use Rattle.std.specs.Float.{nan}
use Rattle.std.specs.Float.Ieee.{round, add, sub, div, of_int, lt, eq, le, to_bits}
use Rattle.limits.specs.Limits.{longest_window}
use Rattle.rounding.specs.Leaves.{sign_of}
use Rattle.calls.specs.declared.Refusal.TheVariants.{
  LengthsDiffer,
  OutputTooShort,
  WorkTooShort,
  ValueNotAccepted,
  WindowTooLong,
  WindowsOutOfOrder,
  BrokenLine,
  WeightTooLarge,
}
use Rattle.calls.specs.Answer.{Answer, slices, checked, windowed, answered}
use Rattle.values.specs.Accepted.{accepted}
use Rattle.cells.specs.Line.{plus_zero, from_bar}
use Rattle.cells.specs.Recur.{recur}
use Rattle.cells.specs.Shown.{prices, first_cells}
use Rattle.windows.specs.Window.{sum_from, window_sum, mean, running_sum}
use Rattle.extremes.specs.Extreme.{pick_from, extreme}
use Rattle.rules_single.specs.Single.{single_line}
use Rattle.rules_double.specs.Double.{running_mean, double_line, double_answer}
use Rattle.rules_middle.specs.Middle.{mid_line}
use Rattle.basket.specs.Basket.{
  groups,
  own_answer,
  own_line,
  position_of,
  net,
  of_group,
  net_line,
  contract_at,
  contracts_of,
  each_answered,
  basket_answer,
}

-- Three contracts of three bars: one average on 1, 3, 5 with n 2, which is 0, 0, 1, in group 2 with weight 3; double on
-- 12, 14, 13 with n 1 and m 2, which is 0, 1, -1, in group 1 with weight -2; and the middle with a window of none in
-- group 2. The rows of groups 1 to 3, of which the last is empty, and of the whole.
abbrev series : List Float
series = prices (pos 1 ∷ pos 3 ∷ pos 5 ∷ pos 12 ∷ pos 14 ∷ pos 13 ∷ pos 7 ∷ pos 8 ∷ pos 9 ∷ [])

abbrev table : List ℕ
table = 3 ∷ 1 ∷ 2 ∷ 0 ∷ 2 ∷ 3 ∷ 2 ∷ 1 ∷ 2 ∷ 1 ∷ 3 ∷ 3 ∷ 0 ∷ 0 ∷ 2 ∷ []

abbrev weights : List ℤ
weights = pos 3 ∷ negsuc 1 ∷ pos 1000 ∷ []

nets : map (λ r. first_cells 3 (λ j. net_line 3 (contracts_of 3 series table weights) (r * 3 + j)))
    (0 ∷ 1 ∷ 2 ∷ groups ∷ [])
    ≡ (pos 0 ∷ negsuc 1 ∷ pos 2 ∷ [])
    ∷ (pos 0 ∷ pos 0 ∷ pos 3 ∷ [])
    ∷ (pos 0 ∷ pos 0 ∷ pos 0 ∷ [])
    ∷ (pos 0 ∷ negsuc 1 ∷ pos 5 ∷ [])
    ∷ []
unfolding net_line net of_group contract_at position_of own_answer own_line answered double_answer slices checked
    windowed accepted single_line double_line mid_line mean window_sum extreme pick_from running_mean running_sum recur
    sum_from from_bar sign_of add sub div of_int lt eq le to_bits round
nets = refl

-- the answer of one contract with one bar, weight w, and so many output and work cells
abbrev one : List Float → List ℕ → ℤ → ℕ → ℕ → Answer
one s t w = basket_answer s t (w ∷ [])

abbrev bar : List Float
bar = plus_zero ∷ []

-- answered; no contract, and 33 of them; four numbers and six; group 0 and 33; rule 0 and 4
shapes : one bar (1 ∷ 1 ∷ 1 ∷ 0 ∷ 32 ∷ []) (pos 1000) 33 8
    ∷ basket_answer [] [] [] 0 0
    ∷ basket_answer [] (replicate 165 1) (replicate 33 (pos 0)) 0 0
    ∷ map (λ t. one bar t (pos 1001) 0 0)
    ((1 ∷ 1 ∷ 1 ∷ 0 ∷ [])
    ∷ (1 ∷ 1 ∷ 1 ∷ 0 ∷ 1 ∷ 1 ∷ [])
    ∷ (1 ∷ 1 ∷ 1 ∷ 0 ∷ 0 ∷ [])
    ∷ (1 ∷ 1 ∷ 1 ∷ 0 ∷ 33 ∷ [])
    ∷ (1 ∷ 0 ∷ 1 ∷ 0 ∷ 1 ∷ [])
    ∷ (1 ∷ 4 ∷ 1 ∷ 0 ∷ 1 ∷ [])
    ∷ [])
    ≡ Ok 33 ∷ replicate 8 (Err BrokenLine)
unfolding basket_answer each_answered contract_at own_answer answered double_answer slices checked windowed accepted
    lt eq le to_bits
shapes = refl

-- a length that is not the slice's, and two that are unequal; an output and a work slice too short; a weight too large
-- either way, before a NaN; a NaN; a window too long, also of no bars; m is not looked at by one average; windows out
-- of order; a window of none, and no bars
refusals : one bar (2 ∷ 1 ∷ 1 ∷ 0 ∷ 1 ∷ []) (pos 1001) 0 0
    ∷ basket_answer (plus_zero ∷ plus_zero ∷ []) (0 ∷ 1 ∷ 1 ∷ 0 ∷ 1 ∷ 2 ∷ 1 ∷ 1 ∷ 0 ∷ 1 ∷ []) (pos 0 ∷ pos 0 ∷ []) 0 0
    ∷ one bar (1 ∷ 1 ∷ 1 ∷ 0 ∷ 1 ∷ []) (pos 1001) 32 7
    ∷ one bar (1 ∷ 1 ∷ 1 ∷ 0 ∷ 1 ∷ []) (pos 1001) 33 7
    ∷ map (λ w. one (nan ∷ []) (1 ∷ 1 ∷ 1 ∷ 0 ∷ 1 ∷ []) w 33 8) (pos 1001 ∷ negsuc 1000 ∷ negsuc 999 ∷ [])
    ++ one bar (1 ∷ 1 ∷ suc longest_window ∷ 0 ∷ 1 ∷ []) (pos 0) 33 8
    ∷ one [] (0 ∷ 3 ∷ suc longest_window ∷ 0 ∷ 1 ∷ []) (pos 0) 0 0
    ∷ one bar (1 ∷ 1 ∷ 1 ∷ suc longest_window ∷ 1 ∷ []) (pos 0) 33 8
    ∷ one bar (1 ∷ 2 ∷ 1 ∷ 1 ∷ 1 ∷ []) (pos 0) 33 8
    ∷ one bar (1 ∷ 2 ∷ 1 ∷ 0 ∷ 1 ∷ []) (pos 0) 33 8
    ∷ one [] (0 ∷ 2 ∷ 1 ∷ 1 ∷ 1 ∷ []) (pos 0) 0 0
    ∷ []
    ≡ Err LengthsDiffer
    ∷ Err LengthsDiffer
    ∷ Err OutputTooShort
    ∷ Err WorkTooShort
    ∷ Err WeightTooLarge
    ∷ Err WeightTooLarge
    ∷ Err ValueNotAccepted
    ∷ Err WindowTooLong
    ∷ Err WindowTooLong
    ∷ Ok 33
    ∷ Err WindowsOutOfOrder
    ∷ Ok 33
    ∷ Ok 0
    ∷ []
unfolding basket_answer each_answered contract_at own_answer answered double_answer slices checked windowed accepted
    lt eq le to_bits
refusals = refl

-- the first contract that is refused gives its refusal: a window too long before a NaN, and after it
in_order : map (λ t. basket_answer (plus_zero ∷ nan ∷ []) t (pos 0 ∷ pos 0 ∷ []) 33 8)
    ((1 ∷ 1 ∷ suc longest_window ∷ 0 ∷ 1 ∷ 1 ∷ 1 ∷ 1 ∷ 0 ∷ 1 ∷ []) ∷ (1 ∷ 1 ∷ 1 ∷ 0 ∷ 1 ∷ 1 ∷ 1 ∷ 1 ∷ 0 ∷ 1 ∷ []) ∷ [])
    ≡ Err WindowTooLong ∷ Err ValueNotAccepted ∷ []
unfolding basket_answer each_answered contract_at own_answer answered double_answer slices checked windowed accepted
    lt eq le to_bits
in_order = refl
