-- triple_sma_positions at small series, with the cells that pure.rs gave, and its answers. Assumes nothing.
use Rattle.std.specs.Prelude.{◌≡◌, refl, [], ◌∷◌, suc, pos, Ok, Err}
use Rattle.std.specs.Float.Ieee.{round, add, div, lt, eq, le, of_int, to_bits}
use Rattle.limits.specs.Limits.{longest_window}
use Rattle.calls.specs.declared.Refusal.TheVariants.{WindowTooLong, SeriesTooShort, WindowsOutOfOrder}
use Rattle.values.specs.Accepted.{accepted}
use Rattle.calls.specs.Answer.{slices, checked, windowed}
use Rattle.cells.specs.Line.{plus_zero, from_bar}
use Rattle.cells.specs.Shown.{prices, cells_of}
use Rattle.windows.specs.Window.{sum_from, window_sum, mean}
use Rattle.rules_triple.specs.Triple.{triple_line, triple_answer}
use Rattle.rules_held.specs.Held.{flat, long, short}

-- windows 1, 2, 3: both above, both below, one of each; a flat series, and one of zeros; three bars
triple_cases : (cells_of (triple_line 1 2 3)
    (prices (pos 1 ∷ pos 2 ∷ pos 4 ∷ pos 3 ∷ pos 1 ∷ pos 0 ∷ pos 5 ∷ pos 4 ∷ []))
    ≡ (flat ∷ flat ∷ long ∷ flat ∷ short ∷ short ∷ long ∷ flat ∷ []))
    × (cells_of (triple_line 1 2 3) (prices (pos 3 ∷ pos 3 ∷ pos 3 ∷ pos 3 ∷ [])) ≡ (flat ∷ flat ∷ flat ∷ flat ∷ []))
    × (cells_of (triple_line 1 2 3) (prices (pos 0 ∷ pos 0 ∷ pos 0 ∷ pos 0 ∷ [])) ≡ (flat ∷ flat ∷ flat ∷ flat ∷ []))
    × (cells_of (triple_line 1 2 3) (prices (pos 2 ∷ pos 1 ∷ pos 3 ∷ [])) ≡ (flat ∷ flat ∷ long ∷ []))
unfolding triple_line mean window_sum sum_from from_bar add div of_int lt round
triple_cases = (refl, refl, refl, refl)

-- windows 2, 3, 4: the first position is at bar 4; with m3 as long as the series there is none
triple_later : (cells_of (triple_line 2 3 4)
    (prices (pos 1 ∷ pos 2 ∷ pos 4 ∷ pos 8 ∷ pos 16 ∷ pos 1 ∷ pos 1 ∷ pos 1 ∷ []))
    ≡ (flat ∷ flat ∷ flat ∷ flat ∷ long ∷ long ∷ short ∷ short ∷ []))
    × (cells_of (triple_line 2 3 4) (prices (pos 1 ∷ pos 2 ∷ pos 4 ∷ pos 8 ∷ [])) ≡ (flat ∷ flat ∷ flat ∷ flat ∷ []))
unfolding triple_line mean window_sum sum_from from_bar add div of_int lt round
triple_later = (refl, refl)

-- windows in order; m3 above L, which is named before windows that are not in order; not in order; a window of 0; too
-- long; no bars
triple_answers : triple_answer (plus_zero ∷ plus_zero ∷ plus_zero ∷ []) 1 2 3 3 24
    ∷ triple_answer (plus_zero ∷ plus_zero ∷ plus_zero ∷ []) 1 2 4 3 24
    ∷ triple_answer (plus_zero ∷ plus_zero ∷ plus_zero ∷ []) 2 1 4 3 24
    ∷ triple_answer (plus_zero ∷ plus_zero ∷ plus_zero ∷ []) 2 2 3 3 24
    ∷ triple_answer (plus_zero ∷ plus_zero ∷ plus_zero ∷ []) 1 3 3 3 24
    ∷ triple_answer (plus_zero ∷ plus_zero ∷ plus_zero ∷ []) 2 0 9 3 24
    ∷ triple_answer (plus_zero ∷ plus_zero ∷ plus_zero ∷ []) (suc longest_window) 0 0 3 24
    ∷ triple_answer [] 3 2 1 0 0
    ∷ []
    ≡ Ok 3
    ∷ Err SeriesTooShort
    ∷ Err SeriesTooShort
    ∷ Err WindowsOutOfOrder
    ∷ Err WindowsOutOfOrder
    ∷ Ok 0
    ∷ Err WindowTooLong
    ∷ Ok 0
    ∷ []
unfolding triple_answer slices checked windowed accepted lt eq le to_bits
triple_answers = refl
