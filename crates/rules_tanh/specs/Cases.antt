-- The tanh rule at small series, with the cells that pure.rs gives, the cells of scores, and its answers. Assumes
-- nothing.
use Rattle.std.specs.Prelude.{◌≡◌, refl, true, false, [], ◌∷◌, map, suc, pos, negsuc, Ok, Err}
use Rattle.std.specs.Float.{nan, inf}
use Rattle.std.specs.Float.Ieee.{round, add, sub, mul, div, lt, eq, le, of_int, of_bits, to_bits}
use Rattle.limits.specs.Limits.{longest_window}
use Rattle.calls.specs.declared.Refusal.TheVariants.{WindowTooLong}
use Rattle.calls.specs.Answer.{slices, checked, windowed, answered}
use Rattle.values.specs.Accepted.{accepted}
use Rattle.rounding.specs.Leaves.{plus_one, minus_one, magnitude_of, sign_of}
use Rattle.rounding_root.specs.Root.{sqrt_of}
use Rattle.cells.specs.Line.{plus_zero, minus_zero, from_bar}
use Rattle.cells.specs.Shown.{prices, bits, cells_of}
use Rattle.windows.specs.Window.{sum_from, window_sum, mean}
use Rattle.deviations.specs.Deviation.{deviation}
use Rattle.rules_tanh.specs.Recorded.{threshold_bits}
use Rattle.rules_tanh.specs.Tanh.{
  thresholds,
  threshold_of,
  largest_to,
  steps_of,
  tanh_cell,
  tanh_of_means,
  tanh_line,
}

-- both zeros; the number below the threshold of 1, and that threshold; those of 100; with either sign; the infinities,
-- and no number
tanh_cells : map tanh_cell (bits (0 ∷ 0x8000000000000000 ∷ 0x3f747aec7708d3c0 ∷ 0xbf747aec7708d3c0 ∷ 0x3f747aec7708d3c1
    ∷ 0xbf747aec7708d3c1 ∷ 0x4007f4b24d3a30e1 ∷ 0xc007f4b24d3a30e1 ∷ 0x4007f4b24d3a30e2 ∷ 0xc007f4b24d3a30e2 ∷ []))
    ≡ bits (0 ∷ 0x8000000000000000 ∷ 0 ∷ 0x8000000000000000 ∷ 0x3f847ae147ae147b
    ∷ 0xbf847ae147ae147b ∷ 0x3fefae147ae147ae ∷ 0xbfefae147ae147ae ∷ 0x3ff0000000000000 ∷ 0xbff0000000000000 ∷ [])
unfolding tanh_cell steps_of largest_to threshold_of thresholds threshold_bits sign_of magnitude_of mul div of_int
    of_bits round lt eq le
tanh_cells = refl

tanh_ends : map tanh_cell (inf false ∷ inf true ∷ nan ∷ []) ≡ plus_one ∷ minus_one ∷ nan ∷ []
unfolding tanh_cell steps_of largest_to threshold_of thresholds threshold_bits sign_of magnitude_of mul div of_int
    of_bits round lt eq le
tanh_ends = refl

-- n 2, where the score of two unlike means is 0.707.. with a sign; n 3; a mean just below the mean of means is -0.0
tanh_cases : (cells_of (tanh_line 2) (prices (pos 1 ∷ pos 2 ∷ pos 4 ∷ pos 2 ∷ pos 1 ∷ []))
    ≡ bits (0 ∷ 0 ∷ 0x3fe3851eb851eb85 ∷ 0 ∷ 0xbfe3851eb851eb85 ∷ []))
    × (cells_of (tanh_line 3) (prices (pos 1 ∷ pos 2 ∷ pos 4 ∷ pos 8 ∷ pos 16 ∷ pos 1 ∷ pos 1 ∷ []))
    ≡ bits (0 ∷ 0 ∷ 0 ∷ 0 ∷ 0x3fe999999999999a ∷ 0x3fd6666666666666 ∷ 0xbfe999999999999a ∷ []))
    × (cells_of (tanh_line 3) (prices (pos 0 ∷ pos 0 ∷ pos 0 ∷ pos 6000 ∷ negsuc 3002 ∷ []))
    ≡ plus_zero ∷ plus_zero ∷ plus_zero ∷ plus_zero ∷ minus_zero ∷ [])
unfolding tanh_of_means tanh_cell steps_of largest_to threshold_of thresholds threshold_bits sign_of magnitude_of
    deviation mean window_sum sum_from from_bar sqrt_of add sub mul div of_int of_bits round lt eq le
tanh_cases = (refl, refl, refl)

-- a flat series, and zeros; n 1 divides 0 by 0; n as long as the series, and longer; one bar
tanh_edges : (cells_of (tanh_line 2) (prices (pos 5 ∷ pos 5 ∷ pos 5 ∷ [])) ≡ plus_zero ∷ plus_zero ∷ plus_zero ∷ [])
    × (cells_of (tanh_line 2) (prices (pos 0 ∷ pos 0 ∷ pos 0 ∷ [])) ≡ plus_zero ∷ plus_zero ∷ plus_zero ∷ [])
    × (cells_of (tanh_line 1) (prices (pos 1 ∷ pos 5 ∷ pos 2 ∷ [])) ≡ plus_zero ∷ plus_zero ∷ plus_zero ∷ [])
    × (cells_of (tanh_line 3) (prices (pos 1 ∷ pos 2 ∷ pos 4 ∷ [])) ≡ plus_zero ∷ plus_zero ∷ plus_zero ∷ [])
    × (cells_of (tanh_line 3) (prices (pos 1 ∷ pos 2 ∷ [])) ≡ plus_zero ∷ plus_zero ∷ [])
    × (cells_of (tanh_line 1) (prices (pos 7 ∷ [])) ≡ plus_zero ∷ [])
unfolding tanh_of_means tanh_cell steps_of largest_to threshold_of thresholds threshold_bits sign_of magnitude_of
    deviation mean window_sum sum_from from_bar sqrt_of add sub mul div of_int of_bits round lt eq le
tanh_edges = (refl, refl, refl, refl, refl, refl)

-- one bar; a window of 0; the longest window, and one too long
tanh_answers : map (λ n. answered accepted (plus_zero ∷ []) (n ∷ []) 1 (8 ∷ []))
    (1 ∷ 0 ∷ longest_window ∷ suc longest_window ∷ [])
    ≡ Ok 1 ∷ Ok 0 ∷ Ok 1 ∷ Err WindowTooLong ∷ []
unfolding answered slices checked windowed accepted lt eq le to_bits
tanh_answers = refl
