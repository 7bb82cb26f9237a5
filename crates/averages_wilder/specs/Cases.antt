-- wilder_rsi at small series, with the cells of a plain loop in Rust, and its answers. Assumes nothing.
use Rattle.std.specs.Prelude.{◌≡◌, refl, [], ◌∷◌, ℕ, suc, pos, Ok, Err}
use Rattle.std.specs.Float.{nan, binary64}
use Rattle.std.specs.Float.Ieee.{round, neg, add, sub, mul, div, lt, eq, le, of_int, of_bits, to_bits}
use Rattle.limits.specs.Limits.{longest_window}
use Rattle.rounding.specs.Literals.{hundred}
use Rattle.values.specs.Accepted.{accepted}
use Rattle.calls.specs.declared.Refusal.TheVariants.{WindowTooLong}
use Rattle.calls.specs.Answer.{Answer, slices, checked, windowed, answered}
use Rattle.cells.specs.Line.{plus_zero, from_bar}
use Rattle.cells.specs.Recur.{recur, carried}
use Rattle.cells.specs.Shown.{prices, bits, cells_of}
use Rattle.windows.specs.Window.{sum_from}
use Rattle.changes.specs.Changes.{change, gains, losses}
use Rattle.averages_wilder.specs.Wilder.{wilder}
use Rattle.averages_wilder.specs.WilderRsi.{fifty, wilder_rsi_line}

-- n 2 and n 3; n 1 has only the last change, and 50 where there is none
wilder_rsi_cases : (cells_of (wilder_rsi_line 2) (prices (pos 1 ∷ pos 2 ∷ pos 4 ∷ pos 3 ∷ pos 3 ∷ pos 5 ∷ pos 1 ∷ []))
    ≡ bits (0x7ff8000000000000 ∷ 0x7ff8000000000000 ∷ 0x4059000000000000 ∷ 0x404e000000000000 ∷ 0x404e000000000000
    ∷ 0x40569e79e79e79e8 ∷ 0x40365a5a5a5a5a58 ∷ []))
    × (cells_of (wilder_rsi_line 3) (prices (pos 1 ∷ pos 2 ∷ pos 4 ∷ pos 3 ∷ pos 3 ∷ pos 5 ∷ pos 1 ∷ []))
    ≡ bits (0x7ff8000000000000 ∷ 0x7ff8000000000000 ∷ 0x7ff8000000000000 ∷ 0x4052c00000000000 ∷ 0x4052c00000000000
    ∷ 0x40560f0f0f0f0f0f ∷ 0x40410ba2e8ba2e8c ∷ []))
    × (cells_of (wilder_rsi_line 1) (prices (pos 1 ∷ pos 2 ∷ pos 2 ∷ pos 1 ∷ pos 4 ∷ []))
    ≡ nan ∷ hundred ∷ fifty ∷ plus_zero ∷ hundred ∷ [])
unfolding wilder_rsi_line wilder carried recur sum_from from_bar gains losses change neg add sub mul div of_int of_bits
    round lt eq
wilder_rsi_cases = (refl, refl, refl)

-- the bits that Rust has for 50.0
fifty_is : fifty ≡ of_bits binary64 0x4049000000000000
unfolding of_bits
fifty_is = refl

-- no change gives 50, zeros too; only falls give 0; n as long as the series, and one less; one bar
wilder_rsi_edges : (cells_of (wilder_rsi_line 2) (prices (pos 5 ∷ pos 5 ∷ pos 5 ∷ [])) ≡ nan ∷ nan ∷ fifty ∷ [])
    × (cells_of (wilder_rsi_line 1) (prices (pos 0 ∷ pos 0 ∷ pos 0 ∷ [])) ≡ nan ∷ fifty ∷ fifty ∷ [])
    × (cells_of (wilder_rsi_line 2) (prices (pos 5 ∷ pos 4 ∷ pos 3 ∷ pos 2 ∷ []))
    ≡ nan ∷ nan ∷ plus_zero ∷ plus_zero ∷ [])
    × (cells_of (wilder_rsi_line 3) (prices (pos 1 ∷ pos 2 ∷ pos 3 ∷ [])) ≡ nan ∷ nan ∷ nan ∷ [])
    × (cells_of (wilder_rsi_line 2) (prices (pos 1 ∷ pos 2 ∷ pos 3 ∷ [])) ≡ nan ∷ nan ∷ hundred ∷ [])
    × (cells_of (wilder_rsi_line 1) (prices (pos 7 ∷ [])) ≡ nan ∷ [])
unfolding wilder_rsi_line wilder carried recur sum_from from_bar gains losses change neg add sub mul div of_int of_bits
    round lt eq
wilder_rsi_edges = (refl, refl, refl, refl, refl, refl)

-- half of a rise of 5e-324 rounds to 0, which reads 50; with n 3 two thirds of it round back to it, which reads 100
wilder_rsi_faint : (cells_of (wilder_rsi_line 2) (bits (0 ∷ 1 ∷ 1 ∷ [])) ≡ nan ∷ nan ∷ fifty ∷ [])
    × (cells_of (wilder_rsi_line 3) (bits (0 ∷ 3 ∷ 3 ∷ 3 ∷ 3 ∷ [])) ≡ nan ∷ nan ∷ nan ∷ hundred ∷ hundred ∷ [])
unfolding wilder_rsi_line wilder carried recur sum_from from_bar gains losses change neg add sub mul div of_int of_bits
    round lt eq
wilder_rsi_faint = (refl, refl)

abbrev one_bar : ℕ → Answer
one_bar n = answered accepted (plus_zero ∷ []) (n ∷ []) 1 (8 ∷ [])

-- a window of 1; one of 0; one too long; no bars
wilder_rsi_answers : one_bar 1 ∷ one_bar 0 ∷ one_bar (suc longest_window) ∷ answered accepted [] (1 ∷ []) 0 (0 ∷ [])
    ∷ []
    ≡ Ok 1 ∷ Ok 0 ∷ Err WindowTooLong ∷ Ok 0 ∷ []
unfolding answered windowed slices checked accepted lt eq le to_bits
wilder_rsi_answers = refl
