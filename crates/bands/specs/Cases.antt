-- ultimate_bands at small series, with the cells that pure.rs gave, and its answers. Assumes nothing.
use Rattle.std.specs.Prelude.{◌≡◌, refl, true, List, [], ◌∷◌, ℕ, suc, pos, Float, Ok, Err}
use Rattle.std.specs.Float.{nan, inf}
use Rattle.std.specs.Float.Ieee.{round, neg, add, sub, mul, div, lt, eq, le, of_int, of_bits, to_bits}
use Rattle.limits.specs.Limits.{longest_period}
use Rattle.calls.specs.declared.Refusal.TheVariants.{OutputTooShort, ParameterNotFinite, WindowTooLong}
use Rattle.calls.specs.Answer.{Answer, slices, checked}
use Rattle.values.specs.Accepted.{accepted, finite}
use Rattle.cells.specs.Line.{plus_zero, from_bar}
use Rattle.rounding.specs.Leaves.{plus_one}
use Rattle.rounding_root.specs.Root.{sqrt_of}
use Rattle.windows.specs.Window.{sum_from}
use Rattle.smoother_table.specs.Recorded.{a1_bits, b1_bits}
use Rattle.smoother_table.specs.Coefficients.{a1_table, b1_table, a1_of, b1_of, of_pair, coefficients}
use Rattle.smoother.specs.Smoother.{formula, smooth}
use Rattle.cells.specs.Shown.{num, prices, bits, cells_of}
use Rattle.deviations.specs.Deviation.{deviation}
use Rattle.outer_lines.specs.OuterLines.{upper_line, lower_line}
use Rattle.bands.specs.Bands.{
  bands_deviation,
  bands_width,
  bands_middle,
  bands_upper,
  bands_lower,
  bands_answer,
}

-- the first cells of the three outputs
abbrev shown : ℕ → Float → ℕ → List Float → List (List Float)
shown n k m s = cells_of (bands_middle n) s ∷ cells_of (bands_upper n k m) s ∷ cells_of (bands_lower n k m) s ∷ []

-- period 2, multiplier 2, smoothing 3; period 3, smoothing 20
bands_cases : (shown 2 (num 2) 3 (prices (pos 1 ∷ pos 2 ∷ pos 4 ∷ pos 3 ∷ pos 7 ∷ pos 5 ∷ pos 6 ∷ []))
    ≡ (bits (0x3ff0000000000000 ∷ 0x4000000000000000 ∷ 0x4010000000000000 ∷ 0x4008000000000000 ∷ 0x4017991527c1304f
    ∷ 0x4019dc56cfab0cc6 ∷ 0x4014a4052ac20fb2 ∷ []) ∷ bits (0x7ff8000000000000 ∷ 0x400b504f333f9de6
    ∷ 0x401b504f333f9de6 ∷ 0x4011a827999fcef3 ∷ 0x402405ae6cbb5c27 ∷ 0x402652ea15cd77e4 ∷ 0x401960be86d2ed20 ∷ [])
    ∷ bits (0x7ff8000000000000 ∷ 0x3fe2bec333018866 ∷ 0x3ff2bec333018866 ∷ 0x3ff95f619980c433 ∷ 0x3ffc9b35d82ea140
    ∷ 0x3ffc4b65ceeca710 ∷ 0x400fce979d626488 ∷ []) ∷ []))
    × (shown 3 plus_one 20 (prices (pos 1 ∷ pos 2 ∷ pos 4 ∷ pos 3 ∷ pos 7 ∷ pos 5 ∷ pos 6 ∷ []))
    ≡ (bits (0x3ff0000000000000 ∷ 0x4000000000000000 ∷ 0x4010000000000000 ∷ 0x4008000000000000 ∷ 0x401689659ffa3f40
    ∷ 0x401a55192ae3f4b5 ∷ 0x40154388d09ec5b2 ∷ []) ∷ bits (0x7ff8000000000000 ∷ 0x7ff8000000000000
    ∷ 0x40161c2f93070a2c ∷ 0x4010000000000000 ∷ 0x4019b546fc946ee3 ∷ 0x401e0154ed1d0725 ∷ 0x4018c065fe061758 ∷ [])
    ∷ bits (0x7ff8000000000000 ∷ 0x7ff8000000000000 ∷ 0x4003c7a0d9f1eba8 ∷ 0x4000000000000000 ∷ 0x40135d8443600f9d
    ∷ 0x4016a8dd68aae245 ∷ 0x4011c6aba337740c ∷ []) ∷ []))
unfolding bands_middle bands_upper bands_lower bands_width bands_deviation upper_line lower_line deviation sqrt_of
    sum_from from_bar smooth formula coefficients of_pair a1_of b1_of a1_table b1_table a1_bits b1_bits neg add sub mul
    div of_int of_bits round lt eq
bands_cases = (refl, refl)

-- period 1 has no deviation; period 4: the outer lines have a number at bar 3 alone; period 5: they are NaN
-- throughout; a flat series, and zeros; a period as long as the series; one bar
bands_edges : (shown 1 (num 2) 3 (prices (pos 1 ∷ pos 2 ∷ pos 4 ∷ pos 3 ∷ pos 7 ∷ pos 5 ∷ []))
    ≡ (bits (0x3ff0000000000000 ∷ 0x4000000000000000 ∷ 0x4010000000000000 ∷ 0x4008000000000000 ∷ 0x401707dd5b391ae8
    ∷ 0x4019fe8e129c5ad5 ∷ []) ∷ bits (0x3ff0000000000000 ∷ 0x4000000000000000 ∷ 0x4010000000000000
    ∷ 0x4008000000000000 ∷ 0x401707dd5b391ae8 ∷ 0x4019fe8e129c5ad5 ∷ []) ∷ bits (0x3ff0000000000000
    ∷ 0x4000000000000000 ∷ 0x4010000000000000 ∷ 0x4008000000000000 ∷ 0x401707dd5b391ae8 ∷ 0x4019fe8e129c5ad5 ∷ [])
    ∷ []))
    × (shown 4 plus_one 2 (prices (pos 1 ∷ pos 2 ∷ pos 4 ∷ pos 3 ∷ pos 7 ∷ pos 5 ∷ []))
    ≡ (bits (0x3ff0000000000000 ∷ 0x4000000000000000 ∷ 0x4010000000000000 ∷ 0x4008000000000000 ∷ 0x4014fe9c73008054
    ∷ 0x401a5b5406f03ba5 ∷ []) ∷ bits (0x7ff8000000000000 ∷ 0x7ff8000000000000 ∷ 0x7ff8000000000000
    ∷ 0x401129fa72e28d24 ∷ 0x7ff8000000000000 ∷ 0x7ff8000000000000 ∷ []) ∷ bits (0x7ff8000000000000
    ∷ 0x7ff8000000000000 ∷ 0x7ff8000000000000 ∷ 0x3ffb58163475cb6f ∷ 0x7ff8000000000000 ∷ 0x7ff8000000000000 ∷ [])
    ∷ []))
    × (shown 5 plus_one 2 (prices (pos 1 ∷ pos 2 ∷ pos 4 ∷ pos 3 ∷ pos 7 ∷ pos 5 ∷ pos 6 ∷ []))
    ≡ (bits (0x3ff0000000000000 ∷ 0x4000000000000000 ∷ 0x4010000000000000 ∷ 0x4008000000000000 ∷ 0x40138f7a26f32c5b
    ∷ 0x4019bfde6961b37e ∷ 0x401758b167ea6b02 ∷ []) ∷ (nan ∷ nan ∷ nan ∷ nan ∷ nan ∷ nan ∷ nan ∷ []) ∷ (nan ∷ nan
    ∷ nan ∷ nan ∷ nan ∷ nan ∷ nan ∷ []) ∷ []))
    × (shown 2 (num 2) 2 (prices (pos 5 ∷ pos 5 ∷ pos 5 ∷ pos 5 ∷ pos 5 ∷ []))
    ≡ (bits (0x4014000000000000 ∷ 0x4014000000000000 ∷ 0x4014000000000000 ∷ 0x4014000000000000 ∷ 0x4013ffffffffffff
    ∷ []) ∷ bits (0x7ff8000000000000 ∷ 0x4014000000000000 ∷ 0x4014000000000000 ∷ 0x4014000000000000
    ∷ 0x4013ffffffffffff ∷ []) ∷ bits (0x7ff8000000000000 ∷ 0x4014000000000000 ∷ 0x4014000000000000
    ∷ 0x4014000000000000 ∷ 0x4013ffffffffffff ∷ []) ∷ []))
    × (shown 2 (num 2) 2 (prices (pos 0 ∷ pos 0 ∷ pos 0 ∷ []))
    ≡ ((plus_zero ∷ plus_zero ∷ plus_zero ∷ []) ∷ (nan ∷ plus_zero ∷ plus_zero ∷ [])
    ∷ (nan ∷ plus_zero ∷ plus_zero ∷ [])
    ∷ []))
    × (shown 3 plus_one 2 (prices (pos 1 ∷ pos 2 ∷ pos 4 ∷ []))
    ≡ (bits (0x3ff0000000000000 ∷ 0x4000000000000000 ∷ 0x4010000000000000 ∷ []) ∷ bits (0x7ff8000000000000
    ∷ 0x7ff8000000000000 ∷ 0x40161c2f93070a2c ∷ []) ∷ bits (0x7ff8000000000000 ∷ 0x7ff8000000000000
    ∷ 0x4003c7a0d9f1eba8 ∷ []) ∷ []))
    × (shown 1 (num 2) 1 (prices (pos 7 ∷ []))
    ≡ (bits (0x401c000000000000 ∷ []) ∷ bits (0x401c000000000000 ∷ []) ∷ bits (0x401c000000000000 ∷ []) ∷ []))
unfolding bands_middle bands_upper bands_lower bands_width bands_deviation upper_line lower_line deviation sqrt_of
    sum_from from_bar smooth formula coefficients of_pair a1_of b1_of a1_table b1_table a1_bits b1_bits neg add sub mul
    div of_int of_bits round lt eq
bands_edges = (refl, refl, refl, refl, refl, refl, refl)

abbrev one_bar : ℕ → Float → ℕ → Answer
one_bar n k m = bands_answer (plus_zero ∷ []) n k m 1 1 1 8

-- one bar; L below the period gives the empty answer, and so does either period of 0; the longest period, and longer
-- ones; a multiplier that is not finite; a lower line of no cells; no bars
bands_answers : one_bar 1 plus_one longest_period ∷ one_bar 2 plus_one 5 ∷ one_bar 0 plus_one 5 ∷ one_bar 1 plus_one 0
    ∷ one_bar (suc longest_period) plus_one 0 ∷ one_bar 0 plus_one (suc longest_period)
    ∷ one_bar 0 (inf true) (suc longest_period)
    ∷ bands_answer (plus_zero ∷ []) 1 plus_one 1 1 1 0 8 ∷ bands_answer [] 1 plus_one 1 0 0 0 0 ∷ []
    ≡ Ok 1 ∷ Ok 0 ∷ Ok 0 ∷ Ok 0 ∷ Err WindowTooLong ∷ Err WindowTooLong
    ∷ Err ParameterNotFinite ∷ Err OutputTooShort ∷ Ok 0 ∷ []
unfolding bands_answer slices checked accepted finite lt eq le to_bits
bands_answers = refl
