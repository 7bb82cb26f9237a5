-- The rule on ranges at small series, and its answers at their edges, computed from the definitions. Assumes nothing.
use Rattle.std.specs.Prelude.{false, List, [], ◌∷◌, ◌≡◌, refl, ℕ, suc, ℤ, pos, negsuc, Float, Ok, Err}
use Rattle.std.specs.Float.{nan, fin}
use Rattle.std.specs.Float.Ieee.{round, of_int, to_signed, lt, eq, le, whole}
use Rattle.calls.specs.declared.Refusal.TheVariants.{
  LengthsDiffer,
  OutputTooShort,
  ValueNotAccepted,
  WindowTooLong,
  WindowsOutOfOrder,
  LowAboveHigh,
}
use Rattle.values.specs.Accepted.{tick}
use Rattle.limits.specs.Limits.{longest_window}
use Rattle.calls.specs.Answer.{slices, checked, in_order, ranged, windowed}
use Rattle.cells.specs.Line.{plus_zero, from_bar, line}
use Rattle.cells.specs.Search.{every_bar}
use Rattle.cells.specs.Shown.{prices, first_cells, num}
use Rattle.rounding.specs.Whole.{total}
use Rattle.rules_double_ranges.specs.Ranges.{joined, gives_long, ranges_line, ranges_answer}

-- two bars with n 1 and m 2
abbrev cells : ℕ → ℕ → ℕ → ℕ → List ℤ
cells a b c d =
    first_cells 2 (ranges_line 1 2 (line (prices (pos a ∷ pos c ∷ []))) (line (prices (pos b ∷ pos d ∷ []))))

-- 5..6, 5..6 hangs on the price to come; 5..6, 6..6 is settled, a tie giving 1; 5..6, 4..4 is settled; 5..6, 5..5 hangs
ranges_cases : cells 5 6 5 6 ∷ cells 5 6 6 6 ∷ cells 5 6 4 4 ∷ cells 5 6 5 5 ∷ []
    ≡ (pos 0 ∷ pos 2 ∷ []) ∷ (pos 0 ∷ pos 1 ∷ []) ∷ (pos 0 ∷ negsuc 0 ∷ []) ∷ (pos 0 ∷ pos 2 ∷ []) ∷ []
unfolding ranges_line gives_long joined total from_bar to_signed of_int round
ranges_cases = refl

-- a half tick
abbrev half : Float
half = fin false 1 (negsuc 0)

-- In order; out of order; a low above its high before windows too long, before the empty answer and before windows out
-- of order; a value that is no tick, in either series, before that; lengths that differ, and an output too short,
-- before all. Then windows too long before the empty answer, and that before windows out of order.
ranges_answers : ranges_answer (plus_zero ∷ []) (num 1 ∷ []) 1 2 1
    ∷ ranges_answer (plus_zero ∷ []) (num 1 ∷ []) 2 2 1
    ∷ ranges_answer (num 1 ∷ []) (plus_zero ∷ []) 1 (suc longest_window) 1
    ∷ ranges_answer (num 1 ∷ []) (plus_zero ∷ []) 0 2 1
    ∷ ranges_answer (num 1 ∷ []) (plus_zero ∷ []) 2 2 1
    ∷ ranges_answer (half ∷ []) (plus_zero ∷ []) 1 2 1
    ∷ ranges_answer (plus_zero ∷ []) (nan ∷ []) 1 2 1
    ∷ ranges_answer (num 1 ∷ []) [] 1 2 1
    ∷ ranges_answer (num 1 ∷ []) (plus_zero ∷ []) 1 2 0
    ∷ ranges_answer [] [] (suc longest_window) 0 0
    ∷ ranges_answer [] [] 2 1 0
    ∷ []
    ≡ Ok 1
    ∷ Err WindowsOutOfOrder
    ∷ Err LowAboveHigh
    ∷ Err LowAboveHigh
    ∷ Err LowAboveHigh
    ∷ Err ValueNotAccepted
    ∷ Err ValueNotAccepted
    ∷ Err LengthsDiffer
    ∷ Err OutputTooShort
    ∷ Err WindowTooLong
    ∷ Ok 0
    ∷ []
unfolding ranges_answer ranged in_order every_bar slices checked windowed tick whole le lt eq of_int round
ranges_answers = refl
