-- mms_positions at small series, with the cells that pure.rs gave, and its answers. Assumes nothing.
use Rattle.std.specs.Prelude.{◌≡◌, refl, [], ◌∷◌, suc, pos, Ok, Err}
use Rattle.std.specs.Float.Ieee.{round, neg, add, sub, mul, div, lt, eq, le, of_int, of_bits, to_bits}
use Rattle.limits.specs.Limits.{longest_window}
use Rattle.calls.specs.declared.Refusal.TheVariants.{WindowTooLong, WorkTooShort}
use Rattle.values.specs.Accepted.{accepted}
use Rattle.calls.specs.Answer.{slices, checked, windowed, answered}
use Rattle.cells.specs.Line.{plus_zero, from_bar}
use Rattle.cells.specs.Shown.{prices, bits, cells_of}
use Rattle.rounding.specs.Leaves.{plus_one, minus_one, magnitude_of}
use Rattle.rounding.specs.Literals.{ten_to_minus}
use Rattle.windows.specs.Window.{sum_from, window_sum, mean}
use Rattle.extremes.specs.Extreme.{pick_from, extreme}
use Rattle.rules_mms.specs.Mms.{mms_line, mms_answer}

-- 1, 3, 2 with windows 1 and 2 gives 0, 1, -1; windows 2 and 3; a value between the ends
mms_cases : (cells_of (mms_line 1 2) (prices (pos 1 ∷ pos 3 ∷ pos 2 ∷ [])) ≡ (plus_zero ∷ plus_one ∷ minus_one ∷ []))
    × (cells_of (mms_line 2 3) (prices (pos 1 ∷ pos 3 ∷ pos 5 ∷ pos 2 ∷ pos 4 ∷ pos 4 ∷ []))
    ≡ bits (0 ∷ 0 ∷ 0 ∷ 0x3fe0000000000000 ∷ 0xbff0000000000000 ∷ 0x3ff0000000000000 ∷ []))
    × (cells_of (mms_line 1 3) (prices (pos 1 ∷ pos 4 ∷ pos 2 ∷ [])) ≡ bits (0 ∷ 0 ∷ 0xbfd5555555555556 ∷ []))
unfolding mms_line extreme pick_from mean window_sum sum_from from_bar ten_to_minus magnitude_of neg add sub mul div
    of_int of_bits round lt eq
mms_cases = (refl, refl, refl)

-- a flat series, and zeros; a window of one mean, whose spread is 0; windows longer than the series; one bar;
-- a spread of 2 ^ -34, which is below 1e-10, one of 1e-10 itself, and the next f64, which is above
mms_edges : (cells_of (mms_line 1 2) (prices (pos 5 ∷ pos 5 ∷ pos 5 ∷ [])) ≡ (plus_zero ∷ plus_zero ∷ plus_zero ∷ []))
    × (cells_of (mms_line 2 2) (prices (pos 0 ∷ pos 0 ∷ pos 0 ∷ [])) ≡ (plus_zero ∷ plus_zero ∷ plus_zero ∷ []))
    × (cells_of (mms_line 2 1) (prices (pos 1 ∷ pos 3 ∷ pos 2 ∷ [])) ≡ (plus_zero ∷ plus_zero ∷ plus_zero ∷ []))
    × (cells_of (mms_line 3 1) (prices (pos 1 ∷ pos 2 ∷ [])) ≡ (plus_zero ∷ plus_zero ∷ []))
    × (cells_of (mms_line 1 3) (prices (pos 1 ∷ pos 2 ∷ [])) ≡ (plus_zero ∷ plus_zero ∷ []))
    × (cells_of (mms_line 1 1) (prices (pos 7 ∷ [])) ≡ (plus_zero ∷ []))
    × (cells_of (mms_line 1 2) (bits (0 ∷ 0x3dd0000000000000 ∷ [])) ≡ (plus_zero ∷ plus_zero ∷ []))
    × (cells_of (mms_line 1 2) (bits (0 ∷ 0x3ddb7cdfd9d7bdbb ∷ [])) ≡ (plus_zero ∷ plus_zero ∷ []))
    × (cells_of (mms_line 1 2) (bits (0 ∷ 0x3ddb7cdfd9d7bdbc ∷ [])) ≡ (plus_zero ∷ plus_one ∷ []))
unfolding mms_line extreme pick_from mean window_sum sum_from from_bar ten_to_minus magnitude_of neg add sub mul div
    of_int of_bits round lt eq
mms_edges = (refl, refl, refl, refl, refl, refl, refl, refl, refl)

-- one bar; either window of 0; either too long; no bars; a work slice too short
mms_answers : mms_answer (plus_zero ∷ []) 1 1 1 8
    ∷ mms_answer (plus_zero ∷ []) 0 1 1 8
    ∷ mms_answer (plus_zero ∷ []) 1 0 1 8
    ∷ mms_answer (plus_zero ∷ []) (suc longest_window) 0 1 8
    ∷ mms_answer (plus_zero ∷ []) 0 (suc longest_window) 1 8
    ∷ mms_answer [] 1 1 0 0
    ∷ mms_answer (plus_zero ∷ []) 1 1 1 7
    ∷ []
    ≡ Ok 1
    ∷ Ok 0
    ∷ Ok 0
    ∷ Err WindowTooLong
    ∷ Err WindowTooLong
    ∷ Ok 0
    ∷ Err WorkTooShort
    ∷ []
unfolding answered slices checked windowed accepted lt eq le to_bits
mms_answers = refl
