-- ultimate_channel at small series, with the cells that pure.rs gave, and its answers. Assumes nothing.
use Rattle.std.specs.Prelude.{◌≡◌, refl, List, [], ◌∷◌, ℕ, suc, pos, negsuc, length, Float, Ok, Err, Option, None, Some}
use Rattle.std.specs.Float.{nan}
use Rattle.std.specs.Float.Ieee.{round, neg, add, sub, mul, div, lt, eq, le, of_int, of_bits, to_bits}
use Rattle.limits.specs.Limits.{longest_period}
use Rattle.calls.specs.declared.Refusal.TheVariants.{
  LengthsDiffer,
  OutputTooShort,
  ValueNotAccepted,
  ParameterNotFinite,
  WindowTooLong,
  SeriesTooShort,
}
use Rattle.calls.specs.Answer.{Answer, slices, checked}
use Rattle.values.specs.Accepted.{accepted, finite}
use Rattle.cells.specs.Line.{line, plus_zero, from_bar}
use Rattle.cells.specs.Recur.{recur, carried}
use Rattle.rounding.specs.Leaves.{plus_one, magnitude_of}
use Rattle.windows.specs.Window.{sum_from}
use Rattle.true_range.specs.TrueRange.{true_range, given_before, true_ranges}
use Rattle.smoother_table.specs.Recorded.{a1_bits, b1_bits}
use Rattle.smoother_table.specs.Coefficients.{a1_table, b1_table, a1_of, b1_of, of_pair, coefficients}
use Rattle.smoother.specs.Smoother.{formula, smooth}
use Rattle.cells.specs.Shown.{num, prices, bits, first_cells}
use Rattle.averages_wilder.specs.Wilder.{wilder}
use Rattle.outer_lines.specs.OuterLines.{upper_line, lower_line}
use Rattle.channel.specs.Channel.{
  average_range,
  channel_width,
  channel_middle,
  channel_upper,
  channel_lower,
  channel_answer,
}

-- the first cells of the three outputs, of the close before bar 0 and of high, low and close
abbrev shown_from : Option Float → ℕ → Float → List Float → List Float → List Float → List (List Float)
shown_from first n k high low close =
    let h = line high in
    let l = line low in
    let c = line close in
    first_cells (length high) (channel_middle n c)
    ∷ first_cells (length high) (channel_upper n k first h l c)
    ∷ first_cells (length high) (channel_lower n k first h l c)
    ∷ []

abbrev shown : ℕ → Float → List Float → List Float → List Float → List (List Float)
shown = shown_from None

-- period 2, multiplier 2; period 3, whose outer lines begin at bar 2
channel_cases : (shown 2 (num 2) (prices (pos 5 ∷ pos 7 ∷ pos 9 ∷ pos 8 ∷ pos 6 ∷ pos 10 ∷ pos 11
    ∷ [])) (prices (pos 3 ∷ pos 4 ∷ pos 6 ∷ pos 5 ∷ pos 2 ∷ pos 5 ∷ pos 9 ∷ [])) (prices (pos 4 ∷ pos 6 ∷ pos 7
    ∷ pos 5 ∷ pos 5 ∷ pos 9 ∷ pos 10 ∷ []))
    ≡ (bits (0x4010000000000000 ∷ 0x4018000000000000 ∷ 0x401c000000000000 ∷ 0x4014000000000000 ∷ 0x40123d3ba98079ba
    ∷ 0x40205ad738bc921d ∷ 0x40258c0dc7536af8 ∷ []) ∷ bits (0x7ff8000000000000 ∷ 0x4026000000000000
    ∷ 0x4029000000000000 ∷ 0x4025800000000000 ∷ 0x40266f4dffeed59e ∷ 0x403081f12b7cbbac ∷ 0x4031eeb868aeab42 ∷ [])
    ∷ bits (0x7ff8000000000000 ∷ 0x3ff0000000000000 ∷ 0x3ff8000000000000 ∷ 0xbfe8000000000000 ∷ 0xc000c84959b96f92
    ∷ 0xbfc38cf96014c780 ∷ 0x400ceaaaf525fdb2 ∷ []) ∷ []))
    × (shown 3 plus_one (prices (pos 5 ∷ pos 7 ∷ pos 9 ∷ pos 8 ∷ pos 6 ∷ pos 10 ∷ pos 11 ∷ [])) (prices (pos 3 ∷ pos 4
    ∷ pos 6 ∷ pos 5 ∷ pos 2 ∷ pos 5 ∷ pos 9 ∷ [])) (prices (pos 4 ∷ pos 6 ∷ pos 7 ∷ pos 5 ∷ pos 5 ∷ pos 9 ∷ pos 10
    ∷ []))
    ≡ (bits (0x4010000000000000 ∷ 0x4018000000000000 ∷ 0x401c000000000000 ∷ 0x4014000000000000 ∷ 0x4011d08f0cca7fb3
    ∷ 0x401f8a3a3a1660ed ∷ 0x40259ab229e6f0b2 ∷ []) ∷ bits (0x7ff8000000000000 ∷ 0x7ff8000000000000
    ∷ 0x4023555555555555 ∷ 0x401f1c71c71c71c6 ∷ 0x401e42cd7898c95a ∷ 0x402740c3e107598e ∷ 0x402c96c08405a4b6 ∷ [])
    ∷ bits (0x7ff8000000000000 ∷ 0x7ff8000000000000 ∷ 0x4011555555555556 ∷ 0x4001c71c71c71c73 ∷ 0x3ff5794283f0d830
    ∷ 0x401092ecb21e0ebd ∷ 0x401d3d479f90795d ∷ []) ∷ []))
unfolding upper_line lower_line channel_width average_range smooth formula coefficients of_pair a1_of b1_of a1_table
    b1_table a1_bits b1_bits true_ranges true_range given_before wilder carried recur sum_from from_bar magnitude_of neg
    add sub mul div of_int of_bits round lt eq
channel_cases = (refl, refl)

-- period 1 smooths its width with period 0: the outer lines are NaN from bar 4 on; period 4: they have a number at
-- bar 3 alone; period 5: they are NaN throughout; periods as long as the series and one longer; one bar; zeros; the
-- low above the high
channel_edges : (shown 1 plus_one (prices (pos 5 ∷ pos 7 ∷ pos 9 ∷ pos 8 ∷ pos 6 ∷ pos 10 ∷ [])) (prices (pos 3
    ∷ pos 4 ∷ pos 6 ∷ pos 5 ∷ pos 2 ∷ pos 5 ∷ [])) (prices (pos 4 ∷ pos 6 ∷ pos 7 ∷ pos 5 ∷ pos 5 ∷ pos 9 ∷ []))
    ≡ (bits (0x4010000000000000 ∷ 0x4018000000000000 ∷ 0x401c000000000000 ∷ 0x4014000000000000 ∷ 0x4012032557b0712a
    ∷ 0x402004be900660d2 ∷ []) ∷ bits (0x4018000000000000 ∷ 0x4022000000000000 ∷ 0x4024000000000000
    ∷ 0x4020000000000000 ∷ 0x7ff8000000000000 ∷ 0x7ff8000000000000 ∷ []) ∷ bits (0x4000000000000000
    ∷ 0x4008000000000000 ∷ 0x4010000000000000 ∷ 0x4000000000000000 ∷ 0x7ff8000000000000 ∷ 0x7ff8000000000000 ∷ [])
    ∷ []))
    × (shown 4 plus_one (prices (pos 5 ∷ pos 7 ∷ pos 9 ∷ pos 8 ∷ pos 6 ∷ pos 10 ∷ [])) (prices (pos 3 ∷ pos 4 ∷ pos 6
    ∷ pos 5 ∷ pos 2 ∷ pos 5 ∷ [])) (prices (pos 4 ∷ pos 6 ∷ pos 7 ∷ pos 5 ∷ pos 5 ∷ pos 9 ∷ []))
    ≡ (bits (0x4010000000000000 ∷ 0x4018000000000000 ∷ 0x401c000000000000 ∷ 0x4014000000000000 ∷ 0x401132a4facd0021
    ∷ 0x401d9364bef01847 ∷ []) ∷ bits (0x7ff8000000000000 ∷ 0x7ff8000000000000 ∷ 0x7ff8000000000000
    ∷ 0x401f000000000000 ∷ 0x7ff8000000000000 ∷ 0x7ff8000000000000 ∷ []) ∷ bits (0x7ff8000000000000
    ∷ 0x7ff8000000000000 ∷ 0x7ff8000000000000 ∷ 0x4002000000000000 ∷ 0x7ff8000000000000 ∷ 0x7ff8000000000000 ∷ [])
    ∷ []))
    × (shown 5 plus_one (prices (pos 5 ∷ pos 7 ∷ pos 9 ∷ pos 8 ∷ pos 6 ∷ pos 10 ∷ pos 11 ∷ [])) (prices (pos 3 ∷ pos 4
    ∷ pos 6 ∷ pos 5 ∷ pos 2 ∷ pos 5 ∷ pos 9 ∷ [])) (prices (pos 4 ∷ pos 6 ∷ pos 7 ∷ pos 5 ∷ pos 5 ∷ pos 9 ∷ pos 10
    ∷ []))
    ≡ (bits (0x4010000000000000 ∷ 0x4018000000000000 ∷ 0x401c000000000000 ∷ 0x4014000000000000 ∷ 0x40109fca75fade89
    ∷ 0x401b7f473d49dcba ∷ 0x40249cac34a144c4 ∷ []) ∷ (nan ∷ nan ∷ nan ∷ nan ∷ nan ∷ nan ∷ nan ∷ []) ∷ (nan ∷ nan
    ∷ nan ∷ nan ∷ nan ∷ nan ∷ nan ∷ []) ∷ []))
    × (shown 3 plus_one (prices (pos 5 ∷ pos 7 ∷ pos 9 ∷ [])) (prices (pos 3 ∷ pos 4 ∷ pos 6 ∷ [])) (prices (pos 4
    ∷ pos 6 ∷ pos 7 ∷ []))
    ≡ (bits (0x4010000000000000 ∷ 0x4018000000000000 ∷ 0x401c000000000000 ∷ []) ∷ bits (0x7ff8000000000000
    ∷ 0x7ff8000000000000 ∷ 0x4023555555555555 ∷ []) ∷ bits (0x7ff8000000000000 ∷ 0x7ff8000000000000
    ∷ 0x4011555555555556 ∷ []) ∷ []))
    × (shown 4 plus_one (prices (pos 5 ∷ pos 7 ∷ pos 9 ∷ [])) (prices (pos 3 ∷ pos 4 ∷ pos 6 ∷ [])) (prices (pos 4
    ∷ pos 6 ∷ pos 7 ∷ []))
    ≡ (bits (0x4010000000000000 ∷ 0x4018000000000000 ∷ 0x401c000000000000 ∷ []) ∷ (nan ∷ nan ∷ nan ∷ []) ∷ (nan ∷ nan
    ∷ nan ∷ []) ∷ []))
    × (shown 1 (num 2) (prices (pos 5 ∷ [])) (prices (pos 3 ∷ [])) (prices (pos 4 ∷ []))
    ≡ (bits (0x4010000000000000 ∷ []) ∷ bits (0x4020000000000000 ∷ []) ∷ (plus_zero ∷ []) ∷ []))
    × (shown 2 plus_one (prices (pos 0 ∷ pos 0 ∷ pos 0 ∷ pos 0 ∷ pos 0 ∷ [])) (prices (pos 0 ∷ pos 0 ∷ pos 0 ∷ pos 0
    ∷ pos 0 ∷ [])) (prices (pos 0 ∷ pos 0 ∷ pos 0 ∷ pos 0 ∷ pos 0 ∷ []))
    ≡ ((plus_zero ∷ plus_zero ∷ plus_zero ∷ plus_zero ∷ plus_zero ∷ [])
    ∷ (nan ∷ plus_zero ∷ plus_zero ∷ plus_zero ∷ plus_zero
    ∷ []) ∷ (nan ∷ plus_zero ∷ plus_zero ∷ plus_zero ∷ plus_zero ∷ []) ∷ []))
    × (shown 1 (num 2) (prices (pos 3 ∷ [])) (prices (pos 5 ∷ [])) (prices (pos 4 ∷ []))
    ≡ (bits (0x4010000000000000 ∷ []) ∷ (plus_zero ∷ []) ∷ bits (0x4020000000000000 ∷ []) ∷ []))
unfolding upper_line lower_line channel_width average_range smooth formula coefficients of_pair a1_of b1_of a1_table
    b1_table a1_bits b1_bits true_ranges true_range given_before wilder carried recur sum_from from_bar magnitude_of neg
    add sub mul div of_int of_bits round lt eq
channel_edges = (refl, refl, refl, refl, refl, refl, refl, refl)

-- a bar from 3 to 5 that closes at 4, of a close before it: above the bar, below it and inside it; and two bars, whose
-- ranges of 6 and 3 have the mean 4.5
first_cases : (shown_from (Some (num 9)) 1 plus_one (num 5 ∷ []) (num 3 ∷ []) (num 4 ∷ [])
    ≡ ((num 4 ∷ []) ∷ (num 10 ∷ []) ∷ prices (negsuc 1 ∷ []) ∷ []))
    × (shown_from (Some (num 1)) 1 plus_one (num 5 ∷ []) (num 3 ∷ []) (num 4 ∷ [])
    ≡ ((num 4 ∷ []) ∷ (num 8 ∷ []) ∷ (num 0 ∷ []) ∷ []))
    × (shown_from (Some (num 4)) 1 plus_one (num 5 ∷ []) (num 3 ∷ []) (num 4 ∷ [])
    ≡ ((num 4 ∷ []) ∷ (num 6 ∷ []) ∷ (num 2 ∷ []) ∷ []))
    × (shown_from (Some (num 9)) 2 (num 2) (prices (pos 5 ∷ pos 7 ∷ [])) (prices (pos 3 ∷ pos 4
    ∷ [])) (prices (pos 4 ∷ pos 6 ∷ []))
    ≡ (prices (pos 4 ∷ pos 6 ∷ []) ∷ (nan ∷ num 15 ∷ []) ∷ (nan ∷ prices (negsuc 2 ∷ [])) ∷ []))
unfolding upper_line lower_line channel_width average_range smooth formula coefficients of_pair a1_of b1_of a1_table
    b1_table a1_bits b1_bits true_ranges true_range given_before wilder carried recur sum_from from_bar magnitude_of neg
    add sub mul div of_int of_bits round lt eq
first_cases = (refl, refl, refl, refl)

-- a period of L + 1, and of L + 2; the longest, and longer; 0; a multiplier that is not finite; series of
-- unequal length; one of three outputs too short; no bars
channel_answers : channel_answer (plus_zero ∷ []) (plus_zero ∷ []) (plus_zero ∷ []) 2 plus_one None (1 ∷ 1 ∷ 1 ∷ [])
    8
    ∷ channel_answer (plus_zero ∷ []) (plus_zero ∷ []) (plus_zero ∷ []) 3 plus_one None (1 ∷ 1 ∷ 1 ∷ []) 8
    ∷ channel_answer (plus_zero ∷ []) (plus_zero ∷ []) (plus_zero ∷ []) longest_period plus_one None (1 ∷ 1 ∷ 1 ∷ [])
    8
    ∷ channel_answer (plus_zero ∷ []) (plus_zero ∷ []) (plus_zero ∷ []) (suc longest_period) plus_one None
    (1 ∷ 1 ∷ 1 ∷ []) 8
    ∷ channel_answer (plus_zero ∷ []) (plus_zero ∷ []) (plus_zero ∷ []) 0 plus_one None (1 ∷ 1 ∷ 1 ∷ []) 8
    ∷ channel_answer (plus_zero ∷ []) (plus_zero ∷ []) (plus_zero ∷ []) (suc longest_period) nan None
    (1 ∷ 1 ∷ 1 ∷ []) 8
    ∷ channel_answer (plus_zero ∷ []) (plus_zero ∷ []) [] 2 plus_one None (1 ∷ 1 ∷ 1 ∷ []) 8
    ∷ channel_answer (plus_zero ∷ []) (plus_zero ∷ []) (plus_zero ∷ []) 2 plus_one None (1 ∷ 1 ∷ 0 ∷ []) 8
    ∷ channel_answer [] [] [] 9 plus_one None (0 ∷ 0 ∷ 0 ∷ []) 0
    ∷ []
    ≡ Ok 1 ∷ Err SeriesTooShort ∷ Err SeriesTooShort ∷ Err WindowTooLong ∷ Ok 0
    ∷ Err ParameterNotFinite ∷ Err LengthsDiffer ∷ Err OutputTooShort ∷ Ok 0 ∷ []
unfolding channel_answer slices checked accepted finite lt eq le to_bits
channel_answers = refl

abbrev one_bar : ℕ → Float → Option Float → Answer
one_bar n k first =
    channel_answer (plus_zero ∷ []) (plus_zero ∷ []) (plus_zero ∷ []) n k first (1 ∷ 1 ∷ 1 ∷ []) 8

-- a close before bar 0 that is accepted, and one that is not: before a multiplier that is not finite, a period that is
-- too long or 0, and no bars; after series of unequal length
first_answers : one_bar 2 plus_one (Some (num 9)) ∷ one_bar 2 plus_one (Some nan) ∷ one_bar 2 nan (Some nan)
    ∷ one_bar (suc longest_period) plus_one (Some nan)
    ∷ one_bar 0 plus_one (Some nan)
    ∷ channel_answer [] [] [] 2 plus_one (Some nan) (0 ∷ 0 ∷ 0 ∷ []) 0
    ∷ channel_answer (plus_zero ∷ []) (plus_zero ∷ []) [] 2 plus_one (Some nan) (1 ∷ 1 ∷ 1 ∷ []) 8
    ∷ []
    ≡ Ok 1 ∷ Err ValueNotAccepted ∷ Err ValueNotAccepted ∷ Err ValueNotAccepted
    ∷ Err ValueNotAccepted ∷ Err ValueNotAccepted ∷ Err LengthsDiffer ∷ []
unfolding channel_answer slices checked accepted finite lt eq le to_bits of_int round
first_answers = refl
