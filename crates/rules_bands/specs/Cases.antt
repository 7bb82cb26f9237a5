-- Both Bollinger rules at small series, with the cells that pure.rs gives, and their answers. Assumes nothing.
use Rattle.std.specs.Prelude.{◌≡◌, refl, true, false, [], ◌∷◌, ℕ, suc, pos, negsuc, Float, Ok, Err}
use Rattle.std.specs.Float.{nan, inf, binary64}
use Rattle.std.specs.Float.Ieee.{round, add, sub, mul, div, lt, eq, le, of_int, of_bits, to_bits}
use Rattle.limits.specs.Limits.{longest_window}
use Rattle.rounding.specs.Leaves.{plus_one}
use Rattle.rounding.specs.Literals.{half, ten_to_minus}
use Rattle.rounding_root.specs.Root.{sqrt_of}
use Rattle.calls.specs.declared.Refusal.TheVariants.{ParameterNotFinite, WindowTooLong}
use Rattle.values.specs.Accepted.{accepted, finite}
use Rattle.calls.specs.Answer.{slices, checked, answered_with}
use Rattle.cells.specs.Line.{plus_zero, from_bar}
use Rattle.cells.specs.Recur.{recur}
use Rattle.cells.specs.Shown.{prices, bits, cells_of}
use Rattle.windows.specs.Window.{sum_from, window_sum, mean}
use Rattle.deviations.specs.Deviation.{deviation}
use Rattle.rules_held.specs.Held.{flat, long, short, moved, hold}
use Rattle.rules_bands.specs.Boll.{outside_bands, boll_line}
use Rattle.rules_bands.specs.BollReverse.{band_signals, turned_bands, boll_reverse_line}

abbrev tenths : ℕ → Float
tenths k = round binary64 false k 10

-- n 2 with k 0.5; n 3 with k 1; k 0, where a flat series stays inside the margin, and zeros
boll_cases : (cells_of (boll_line 2 half) (prices (pos 1 ∷ pos 2 ∷ pos 4 ∷ pos 8 ∷ pos 1 ∷ pos 1 ∷ pos 1 ∷ []))
    ≡ flat ∷ flat ∷ long ∷ long ∷ short ∷ short ∷ flat ∷ [])
    × (cells_of (boll_line 3 plus_one) (prices (pos 1 ∷ pos 2 ∷ pos 4 ∷ pos 8 ∷ pos 16 ∷ pos 1 ∷ pos 1 ∷ []))
    ≡ flat ∷ flat ∷ flat ∷ flat ∷ long ∷ flat ∷ short ∷ [])
    × (cells_of (boll_line 2 plus_zero) (prices (pos 5 ∷ pos 5 ∷ pos 5 ∷ pos 5 ∷ [])) ≡ flat ∷ flat ∷ flat ∷ flat ∷ [])
    × (cells_of (boll_line 2 plus_one) (prices (pos 0 ∷ pos 0 ∷ pos 0 ∷ pos 0 ∷ [])) ≡ flat ∷ flat ∷ flat ∷ flat ∷ [])
unfolding outside_bands deviation mean window_sum sum_from from_bar ten_to_minus sqrt_of add sub mul div of_int of_bits
    round lt
boll_cases = (refl, refl, refl, refl)

-- n 1 divides 0 by 0, and opens nothing; n as long as the series, and longer; one bar; k below 0, where the bands
-- change places, and above the upper one is asked first; means that differ by less than the margin
boll_edges : (cells_of (boll_line 1 half) (prices (pos 1 ∷ pos 5 ∷ pos 2 ∷ [])) ≡ flat ∷ flat ∷ flat ∷ [])
    × (cells_of (boll_line 3 plus_zero) (prices (pos 1 ∷ pos 2 ∷ pos 4 ∷ [])) ≡ flat ∷ flat ∷ flat ∷ [])
    × (cells_of (boll_line 3 plus_zero) (prices (pos 1 ∷ pos 2 ∷ [])) ≡ flat ∷ flat ∷ [])
    × (cells_of (boll_line 1 plus_zero) (prices (pos 7 ∷ [])) ≡ flat ∷ [])
    × (cells_of (boll_line 2 (of_int binary64 (negsuc 1)))
    (prices (pos 1 ∷ pos 2 ∷ pos 4 ∷ pos 8 ∷ pos 1 ∷ pos 1 ∷ pos 1 ∷ []))
    ≡ flat ∷ flat ∷ long ∷ long ∷ long ∷ long ∷ flat ∷ [])
    × (cells_of (boll_line 2 plus_zero)
    (bits (0x3ff0000000000000 ∷ 0x3ff0000000000000 ∷ 0x3ff00000000dbe70 ∷ 0x3ff00000001b7ce0 ∷ []))
    ≡ flat ∷ flat ∷ flat ∷ flat ∷ [])
unfolding outside_bands deviation mean window_sum sum_from from_bar ten_to_minus sqrt_of add sub mul div of_int of_bits
    round lt
boll_edges = (refl, refl, refl, refl, refl, refl)

-- 4, 4, 8 with n 2 and k 0.5 gives 0, 0, -1, and with k 0.8 too, where a deviation over n - 1 would give 0; then
-- opened, held to the middle, closed, and opened again at a later bar, from either side
reverse_cases : (cells_of (boll_reverse_line 2 half) (prices (pos 4 ∷ pos 4 ∷ pos 8 ∷ [])) ≡ flat ∷ flat ∷ short ∷ [])
    × (cells_of (boll_reverse_line 2 (tenths 8)) (prices (pos 4 ∷ pos 4 ∷ pos 8 ∷ [])) ≡ flat ∷ flat ∷ short ∷ [])
    × (cells_of (boll_reverse_line 2 half)
    (prices (pos 4 ∷ pos 4 ∷ pos 8 ∷ pos 9 ∷ pos 9 ∷ pos 4 ∷ pos 4 ∷ pos 8 ∷ pos 8 ∷ pos 2 ∷ pos 2 ∷ pos 2 ∷ []))
    ≡ flat ∷ flat ∷ short ∷ short ∷ short ∷ flat ∷ long ∷ flat ∷ short ∷ flat ∷ long ∷ long ∷ [])
    × (cells_of (boll_reverse_line 2 half)
    (prices (pos 9 ∷ pos 8 ∷ pos 2 ∷ pos 2 ∷ pos 2 ∷ pos 9 ∷ pos 9 ∷ pos 9 ∷ []))
    ≡ flat ∷ flat ∷ long ∷ long ∷ long ∷ flat ∷ short ∷ short ∷ [])
unfolding band_signals turned_bands hold moved recur deviation mean window_sum sum_from from_bar sqrt_of add sub mul div
    of_int of_bits round lt
reverse_cases = (refl, refl, refl, refl)

-- n 1, where mean, middle and bands are one; a flat series, and zeros; n longer than the series; one bar; k below 0,
-- where above the upper band is asked first
reverse_edges : (cells_of (boll_reverse_line 1 half) (prices (pos 1 ∷ pos 5 ∷ pos 2 ∷ [])) ≡ flat ∷ flat ∷ flat ∷ [])
    × (cells_of (boll_reverse_line 2 half) (prices (pos 5 ∷ pos 5 ∷ pos 5 ∷ pos 5 ∷ []))
    ≡ flat ∷ flat ∷ flat ∷ flat ∷ [])
    × (cells_of (boll_reverse_line 2 half) (prices (pos 0 ∷ pos 0 ∷ pos 0 ∷ pos 0 ∷ []))
    ≡ flat ∷ flat ∷ flat ∷ flat ∷ [])
    × (cells_of (boll_reverse_line 3 half) (prices (pos 1 ∷ pos 2 ∷ [])) ≡ flat ∷ flat ∷ [])
    × (cells_of (boll_reverse_line 1 half) (prices (pos 7 ∷ [])) ≡ flat ∷ [])
    × (cells_of (boll_reverse_line 2 (of_int binary64 (negsuc 1)))
    (prices (pos 1 ∷ pos 2 ∷ pos 4 ∷ pos 8 ∷ pos 1 ∷ pos 1 ∷ pos 1 ∷ []))
    ≡ flat ∷ flat ∷ short ∷ short ∷ flat ∷ short ∷ short ∷ [])
unfolding band_signals turned_bands hold moved recur deviation mean window_sum sum_from from_bar sqrt_of add sub mul div
    of_int of_bits round lt
reverse_edges = (refl, refl, refl, refl, refl, refl)

-- one bar; a k that is not finite comes before a window too long; a window of 0 after both; no bars
band_answers : answered_with accepted (plus_zero ∷ []) (half ∷ []) (1 ∷ []) 1 (8 ∷ [])
    ∷ answered_with accepted (plus_zero ∷ []) (nan ∷ []) (suc longest_window ∷ []) 1 (8 ∷ [])
    ∷ answered_with accepted (plus_zero ∷ []) (half ∷ []) (suc longest_window ∷ []) 1 (8 ∷ [])
    ∷ answered_with accepted (plus_zero ∷ []) ((inf true) ∷ []) (0 ∷ []) 1 (8 ∷ [])
    ∷ answered_with accepted (plus_zero ∷ []) (half ∷ []) (0 ∷ []) 1 (8 ∷ [])
    ∷ answered_with accepted [] (half ∷ []) (1 ∷ []) 0 (0 ∷ [])
    ∷ []
    ≡ Ok 1 ∷ Err ParameterNotFinite ∷ Err WindowTooLong ∷ Err ParameterNotFinite ∷ Ok 0 ∷ Ok 0 ∷ []
unfolding answered_with slices checked accepted finite lt eq le to_bits
band_answers = refl
