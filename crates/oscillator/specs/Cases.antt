-- ultimate_oscillator at small series, with the cells that pure.rs gave, and its answers. Assumes nothing.
use Rattle.std.specs.Prelude.{◌≡◌, refl, List, [], ◌∷◌, ℕ, suc, pos, length, Float, Ok, Err, Option, None, Some}
use Rattle.std.specs.Float.{nan}
use Rattle.std.specs.Float.Ieee.{round, neg, add, sub, mul, div, lt, eq, le, of_int, of_bits, to_bits}
use Rattle.limits.specs.Limits.{longest_window}
use Rattle.calls.specs.declared.Refusal.TheVariants.{LengthsDiffer, ValueNotAccepted, WindowTooLong}
use Rattle.calls.specs.Answer.{Answer, slices, checked, windowed}
use Rattle.values.specs.Accepted.{accepted, finite}
use Rattle.cells.specs.Line.{line, plus_zero, from_bar}
use Rattle.cells.specs.Shown.{num, prices, bits, first_cells}
use Rattle.rounding.specs.Leaves.{magnitude_of}
use Rattle.windows.specs.Window.{sum_from}
use Rattle.true_range.specs.TrueRange.{true_range, true_ranges, given_before}
use Rattle.oscillator.specs.Oscillator.{
  pressure,
  pressures,
  share,
  weighed_shares,
  oscillator_line,
  oscillator_answer,
}

-- as many cells as bars, of the close before bar 0 and of high, low and close
abbrev shown_from : Option Float → ℕ → ℕ → ℕ → List Float → List Float → List Float → List Float
shown_from first n m k high low close =
    first_cells (length high) (oscillator_line n m k first (line high) (line low) (line close))

abbrev shown : ℕ → ℕ → ℕ → List Float → List Float → List Float → List Float
shown = shown_from None

-- windows 1, 2, 3, and 2, 3, 4: NaN until the longest is whole; the windows need not rise
oscillator_cases : (shown 1 2 3 (prices (pos 5 ∷ pos 7 ∷ pos 9 ∷ pos 8 ∷ pos 6 ∷ [])) (prices (pos 3 ∷ pos 4 ∷ pos 6
    ∷ pos 5 ∷ pos 2 ∷ [])) (prices (pos 4 ∷ pos 6 ∷ pos 7 ∷ pos 5 ∷ pos 5 ∷ []))
    ≡ bits (0x7ff8000000000000 ∷ 0x7ff8000000000000 ∷ 0x40443cf3cf3cf3cf ∷ 0x40230c30c30c30c2 ∷ 0x404e687d6343eb1a
    ∷ []))
    × (shown 2 3 4 (prices (pos 5 ∷ pos 7 ∷ pos 9 ∷ pos 8 ∷ pos 6 ∷ pos 10 ∷ pos 11 ∷ [])) (prices (pos 3 ∷ pos 4
    ∷ pos 6 ∷ pos 5 ∷ pos 2 ∷ pos 5 ∷ pos 9 ∷ [])) (prices (pos 4 ∷ pos 6 ∷ pos 7 ∷ pos 5 ∷ pos 5 ∷ pos 9 ∷ pos 10
    ∷ []))
    ≡ bits (0x7ff8000000000000 ∷ 0x7ff8000000000000 ∷ 0x7ff8000000000000 ∷ 0x40383e0f83e0f83e ∷ 0x40454181cef85d3d
    ∷ 0x40512ebaebaebaeb ∷ 0x4051709062ca548a ∷ []))
    × (shown 3 1 2 (prices (pos 5 ∷ pos 7 ∷ pos 9 ∷ pos 8 ∷ [])) (prices (pos 3 ∷ pos 4 ∷ pos 6 ∷ pos 5
    ∷ [])) (prices (pos 4 ∷ pos 6 ∷ pos 7 ∷ pos 5 ∷ []))
    ≡ bits (0x7ff8000000000000 ∷ 0x7ff8000000000000 ∷ 0x40469e79e79e79e7 ∷ 0x40356db6db6db6db ∷ []))
unfolding oscillator_line weighed_shares share pressures pressure true_ranges true_range given_before sum_from from_bar
    magnitude_of neg add sub mul div of_int of_bits round lt eq
oscillator_cases = (refl, refl, refl)

-- a flat series has no range, which gives 0, and zeros have none; one bar; a window longer than the series; at bar 0
-- the close stands for the one before; a high below the low gives -0.0
oscillator_edges : (shown 1 2 2 (prices (pos 5 ∷ pos 5 ∷ pos 5 ∷ [])) (prices (pos 5 ∷ pos 5 ∷ pos 5
    ∷ [])) (prices (pos 5 ∷ pos 5 ∷ pos 5 ∷ []))
    ≡ (nan ∷ plus_zero ∷ plus_zero ∷ []))
    × (shown 1 1 1 (prices (pos 0 ∷ pos 0 ∷ [])) (prices (pos 0 ∷ pos 0 ∷ [])) (prices (pos 0 ∷ pos 0 ∷ []))
    ≡ (plus_zero ∷ plus_zero ∷ []))
    × (shown 1 1 1 (prices (pos 5 ∷ [])) (prices (pos 3 ∷ [])) (prices (pos 4 ∷ [])) ≡ bits (0x4049000000000000 ∷ []))
    × (shown 1 2 3 (prices (pos 5 ∷ pos 6 ∷ [])) (prices (pos 3 ∷ pos 4 ∷ [])) (prices (pos 4 ∷ pos 5 ∷ []))
    ≡ (nan ∷ nan ∷ []))
    × (shown 1 1 1 (prices (pos 9 ∷ pos 9 ∷ [])) (prices (pos 8 ∷ pos 8 ∷ [])) (prices (pos 2 ∷ pos 3 ∷ []))
    ≡ bits (0 ∷ 0x402c924924924925 ∷ []))
    × (shown 1 1 1 (prices (pos 1 ∷ [])) (prices (pos 3 ∷ [])) (prices (pos 2 ∷ [])) ≡ bits (0x8000000000000000 ∷ []))
unfolding oscillator_line weighed_shares share pressures pressure true_ranges true_range given_before sum_from from_bar
    magnitude_of neg add sub mul div of_int of_bits round lt eq
oscillator_edges = (refl, refl, refl, refl, refl, refl)

-- a bar from 3 to 5 that closes at 4, of a close before it: above the bar, below it and inside it
first_cases : (shown_from (Some (num 7)) 1 1 1 (num 5 ∷ []) (num 3 ∷ []) (num 4 ∷ []) ≡ (num 25 ∷ []))
    × (shown_from (Some (num 1)) 1 1 1 (num 5 ∷ []) (num 3 ∷ []) (num 4 ∷ []) ≡ (num 75 ∷ []))
    × (shown_from (Some (num 4)) 1 1 1 (num 5 ∷ []) (num 3 ∷ []) (num 4 ∷ []) ≡ (num 50 ∷ []))
unfolding oscillator_line weighed_shares share pressures pressure true_ranges true_range given_before sum_from from_bar
    magnitude_of neg add sub mul div of_int of_bits round lt eq
first_cases = (refl, refl, refl)

abbrev one_bar_from : Option Float → ℕ → ℕ → ℕ → Answer
one_bar_from first n m k = oscillator_answer (plus_zero ∷ []) (plus_zero ∷ []) (plus_zero ∷ []) n m k first 1 8

abbrev one_bar : ℕ → ℕ → ℕ → Answer
one_bar = one_bar_from None

-- one bar; any window of 0; the longest window and one longer; series of unequal length; no bars
oscillator_answers : one_bar 1 2 3 ∷ one_bar 1 0 3 ∷ one_bar longest_window 1 longest_window
    ∷ one_bar 1 0 (suc longest_window)
    ∷ oscillator_answer (plus_zero ∷ []) [] (plus_zero ∷ []) 1 2 3 None 1 8
    ∷ oscillator_answer [] [] [] 1 2 3 None 0 0
    ∷ []
    ≡ Ok 1 ∷ Ok 0 ∷ Ok 1 ∷ Err WindowTooLong ∷ Err LengthsDiffer ∷ Ok 0 ∷ []
unfolding oscillator_answer slices checked windowed accepted finite lt eq le to_bits
oscillator_answers = refl

-- a close before bar 0 that is accepted, and one that is not: before a window that is too long or 0, and no bars; after
-- series of unequal length
first_answers : one_bar_from (Some plus_zero) 1 2 3 ∷ one_bar_from (Some nan) 1 2 3
    ∷ one_bar_from (Some nan) 1 2 (suc longest_window)
    ∷ one_bar_from (Some nan) 1 0 3
    ∷ oscillator_answer [] [] [] 1 2 3 (Some nan) 0 0
    ∷ oscillator_answer (plus_zero ∷ []) [] (plus_zero ∷ []) 1 2 3 (Some nan) 1 8
    ∷ []
    ≡ Ok 1 ∷ Err ValueNotAccepted ∷ Err ValueNotAccepted ∷ Err ValueNotAccepted
    ∷ Err ValueNotAccepted ∷ Err LengthsDiffer ∷ []
unfolding oscillator_answer slices checked windowed accepted finite lt eq le to_bits
first_answers = refl
