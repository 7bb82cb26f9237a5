-- holt_winters at small series, with the cells that pure.rs gave, and its answers. Assumes nothing.
use Rattle.std.specs.Prelude.{◌≡◌, refl, true, false, [], ◌∷◌, ℕ, suc, pos, negsuc, Float, Ok, Err}
use Rattle.std.specs.Float.{nan, inf, fin, binary64}
use Rattle.std.specs.Float.Ieee.{round, add, sub, mul, div, lt, eq, le, of_int, of_bits, to_bits}
use Rattle.limits.specs.Limits.{longest_window}
use Rattle.calls.specs.declared.Refusal.TheVariants.{ParameterNotFinite, WindowTooLong}
use Rattle.calls.specs.Answer.{Answer, slices, checked}
use Rattle.values.specs.Accepted.{accepted, finite}
use Rattle.cells.specs.Line.{plus_zero, from_bar}
use Rattle.rounding.specs.Leaves.{minus_one}
use Rattle.windows.specs.Window.{sum_from, window_sum, mean}
use Rattle.cells.specs.Shown.{num, prices, bits, cells_of}
use Rattle.holt_winters.specs.declared.Weights.{Weights}
use Rattle.holt_winters.specs.HoltWinters.{weights, next_fit, fit_within, fit_line, holt_winters_line}
use Rattle.holt_winters.specs.HoltWinters.{holt_winters_answer}

-- 0.5, and a number of tenths
abbrev half : Float
half = fin false 1 (negsuc 0)

abbrev tenths : ℕ → Float
tenths k = round binary64 false k 10

-- 4, 6 with season 1 and 0.5, 0, 0 gives 4, 5; seasons of two and of three, through more than two of them
holt_winters_cases : (cells_of (holt_winters_line 1 (weights half plus_zero plus_zero)) (prices (pos 4 ∷ pos 6 ∷ []))
    ≡ bits (0x4010000000000000 ∷ 0x4014000000000000 ∷ []))
    × (cells_of (holt_winters_line 2 (weights half (tenths 1) (tenths 3)))
    (prices (pos 1 ∷ pos 3 ∷ pos 2 ∷ pos 5 ∷ pos 4 ∷ pos 6 ∷ pos 7 ∷ []))
    ≡ bits (0x3ff0000000000000 ∷ 0x4008000000000000 ∷ 0x3ffb333333333332 ∷ 0x401275c28f5c28f6 ∷ 0x400d7e76c8b43957
    ∷ 0x40183961e4f765fe ∷ 0x40196ffddebd901a ∷ []))
    × (cells_of (holt_winters_line 3 (weights (tenths 2) half (tenths 9)))
    (prices (pos 1 ∷ pos 5 ∷ pos 2 ∷ pos 2 ∷ pos 6 ∷ pos 3 ∷ pos 3 ∷ pos 7 ∷ []))
    ≡ bits (0x3ff0000000000000 ∷ 0x4014000000000000 ∷ 0x4000000000000000 ∷ 0x400028f5c28f5c29 ∷ 0x401874bc6a7ef9dc
    ∷ 0x40096c226809d496 ∷ 0x4009bbb83cf2cf97 ∷ 0x401d02de8709741e ∷ []))
unfolding holt_winters_line fit_line fit_within next_fit mean window_sum sum_from from_bar add sub mul div of_int
    of_bits round
holt_winters_cases = (refl, refl, refl)

abbrev halves : Weights
halves = weights half half half

-- a season as long as the series copies it; one bar; a flat series, and zeros; parameters beyond 1 and below 0
holt_winters_edges : (cells_of (holt_winters_line 3 halves) (prices (pos 1 ∷ pos 3 ∷ pos 2 ∷ []))
    ≡ prices (pos 1 ∷ pos 3 ∷ pos 2 ∷ []))
    × (cells_of (holt_winters_line 1 halves) (prices (pos 7 ∷ [])) ≡ prices (pos 7 ∷ []))
    × (cells_of (holt_winters_line 2 halves) (prices (pos 5 ∷ pos 5 ∷ pos 5 ∷ pos 5 ∷ []))
    ≡ prices (pos 5 ∷ pos 5 ∷ pos 5 ∷ pos 5 ∷ []))
    × (cells_of (holt_winters_line 1 halves) (prices (pos 0 ∷ pos 0 ∷ pos 0 ∷ []))
    ≡ plus_zero ∷ plus_zero ∷ plus_zero ∷ [])
    × (cells_of (holt_winters_line 1 (weights (num 2) minus_one (num 3)))
    (prices (pos 1 ∷ pos 3 ∷ pos 2 ∷ pos 5 ∷ pos 4 ∷ []))
    ≡ prices (pos 1 ∷ negsuc 4 ∷ negsuc 29 ∷ negsuc 152 ∷ negsuc 711 ∷ []))
unfolding holt_winters_line fit_line fit_within next_fit mean window_sum sum_from from_bar add sub mul div of_int
    of_bits round
holt_winters_edges = (refl, refl, refl, refl, refl)

abbrev one_bar : ℕ → Weights → Answer
one_bar m w = holt_winters_answer (plus_zero ∷ []) m w 1 8

-- a season as long as the series; a longer one and one of 0 give the empty answer; each parameter not finite comes
-- before a season too long; no bars
holt_winters_answers : one_bar 1 halves ∷ one_bar 2 halves ∷ one_bar 0 halves
    ∷ one_bar (suc longest_window) (weights nan half half) ∷ one_bar (suc longest_window) (weights half (inf true) half)
    ∷ one_bar (suc longest_window) (weights half half (inf false)) ∷ one_bar (suc longest_window) halves
    ∷ holt_winters_answer [] 1 halves 0 0 ∷ []
    ≡ Ok 1 ∷ Ok 0 ∷ Ok 0 ∷ Err ParameterNotFinite ∷ Err ParameterNotFinite
    ∷ Err ParameterNotFinite ∷ Err WindowTooLong ∷ Ok 0 ∷ []
unfolding holt_winters_answer slices checked accepted finite lt eq le to_bits
holt_winters_answers = refl
