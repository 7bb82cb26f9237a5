-- jurik_volty at small series, with the cells that pure.rs gave, and its answers. Assumes nothing.
use Rattle.std.specs.Prelude.{◌≡◌, refl, [], ◌∷◌, suc, pos, negsuc, Ok, Err}
use Rattle.std.specs.Float.{nan, binary64}
use Rattle.std.specs.Float.Ieee.{round, neg, add, sub, mul, div, lt, eq, le, of_int, of_bits, to_bits, is_nan}
use Rattle.limits.specs.Limits.{longest_window}
use Rattle.rounding.specs.Leaves.{plus_one, magnitude_of}
use Rattle.rounding.specs.Literals.{half}
use Rattle.values.specs.Accepted.{accepted, finite}
use Rattle.calls.specs.declared.Refusal.TheVariants.{ParameterNotFinite, WindowTooLong}
use Rattle.calls.specs.Answer.{slices, checked, answered_with}
use Rattle.cells.specs.Line.{plus_zero, from_bar}
use Rattle.cells.specs.Recur.{recur, carried}
use Rattle.cells.specs.Search.{first_bar}
use Rattle.cells.specs.Shown.{prices, bits, cells_of}
use Rattle.changes.specs.Changes.{change}
use Rattle.jurik.specs.Jurik.{
  averaged,
  copied,
  first_differing,
  price_change,
  smooth1,
  smooth2,
  jv_of,
  jv,
  jurik_with,
  jurik_line,
}

-- n 6 with power 1; n 3; n 2 and n 1, whose spans are 0: the weight is 2 / 1, and what is left of the last cell is -1
jurik_cases : (cells_of (jurik_line 6 6 plus_one) (prices (pos 1 ∷ pos 2 ∷ pos 4 ∷ pos 3 ∷ pos 7 ∷ pos 5 ∷ []))
    ≡ bits (0 ∷ 0 ∷ 0x3ff6000000000000 ∷ 0x3ff4aaaaaaaaaaaa ∷ 0x3fff38e38e38e38e ∷ 0x4001097b425ed098 ∷ []))
    × (cells_of (jurik_line 6 3 plus_one) (prices (pos 1 ∷ pos 2 ∷ pos 4 ∷ pos 3 ∷ pos 7 ∷ pos 5 ∷ []))
    ≡ bits (0 ∷ 0 ∷ 0x4004000000000000 ∷ 0x3fe0000000000000 ∷ 0x4016000000000000 ∷ 0x3ff0000000000000 ∷ []))
    × (cells_of (jurik_line 5 2 plus_one) (prices (pos 1 ∷ pos 2 ∷ pos 4 ∷ pos 3 ∷ pos 7 ∷ []))
    ≡ bits (0 ∷ 0 ∷ 0x4004000000000000 ∷ 0xbff8000000000000 ∷ 0x4029000000000000 ∷ []))
    × (cells_of (jurik_line 5 1 plus_one) (prices (pos 1 ∷ pos 2 ∷ pos 4 ∷ pos 3 ∷ pos 7 ∷ []))
    ≡ bits (0 ∷ 0 ∷ 0x401c000000000000 ∷ 0xc040800000000000 ∷ 0x405cc00000000000 ∷ []))
unfolding jurik_line jurik_with smooth1 smooth2 jv_of jv price_change averaged copied first_differing change carried
    first_bar recur from_bar magnitude_of is_nan neg add sub mul div of_int of_bits round eq
jurik_cases = (refl, refl, refl, refl)

-- equal changes are left as they are at every pass: one tenth a bar stays that, where an average would round; of four
-- bars the third pass finds one value, and leaves a 0 beside it, of five it finds two, and the cell of bar 3 becomes
-- -4.5: it looks ahead; no change at all; a power of 0; one bar, two bars
jurik_equal : (cells_of (jurik_line 5 7 plus_one) (bits (0 ∷ 0x3fb999999999999a ∷ 0x3fc999999999999a
    ∷ 0x3fb999999999999a ∷ 0x3fc999999999999a ∷ []))
    ≡ bits (0 ∷ 0 ∷ 0x3fb999999999999a ∷ 0x3fb999999999999a ∷ 0x3fb999999999999a ∷ []))
    × (cells_of (jurik_line 4 2 plus_one) (prices (pos 0 ∷ pos 0 ∷ pos 3 ∷ pos 2 ∷ []))
    ≡ bits (0 ∷ 0 ∷ 0x4012000000000000 ∷ 0 ∷ []))
    × (cells_of (jurik_line 5 2 plus_one) (prices (pos 0 ∷ pos 0 ∷ pos 3 ∷ pos 2 ∷ pos 2 ∷ []))
    ≡ bits (0 ∷ 0 ∷ 0x4012000000000000 ∷ 0xc012000000000000 ∷ 0x400c000000000000 ∷ []))
    × (cells_of (jurik_line 4 3 plus_one) (prices (pos 5 ∷ pos 5 ∷ pos 5 ∷ pos 5 ∷ []))
    ≡ (plus_zero ∷ plus_zero ∷ plus_zero ∷ plus_zero ∷ []))
    × (cells_of (jurik_line 3 2 plus_one) (prices (pos 0 ∷ pos 0 ∷ pos 0 ∷ []))
    ≡ (plus_zero ∷ plus_zero ∷ plus_zero ∷ []))
    × (cells_of (jurik_line 5 5 plus_zero) (prices (pos 1 ∷ pos 2 ∷ pos 4 ∷ pos 3 ∷ pos 7 ∷ []))
    ≡ (plus_zero ∷ plus_zero ∷ plus_zero ∷ plus_zero ∷ plus_zero ∷ []))
    × (cells_of (jurik_line 1 3 plus_one) (prices (pos 7 ∷ [])) ≡ (plus_zero ∷ []))
    × (cells_of (jurik_line 2 3 plus_one) (prices (pos 7 ∷ pos 9 ∷ [])) ≡ (plus_zero ∷ plus_zero ∷ []))
unfolding jurik_line jurik_with smooth1 smooth2 jv_of jv price_change averaged copied first_differing change carried
    first_bar recur from_bar magnitude_of is_nan neg add sub mul div of_int of_bits round eq
jurik_equal = (refl, refl, refl, refl, refl, refl, refl, refl)

-- the third pass starts at the first cell that is not 0; n 1 of a single step; a power below 0
jurik_zeros : (cells_of (jurik_line 6 3 plus_one) (prices (pos 5 ∷ pos 5 ∷ pos 5 ∷ pos 5 ∷ pos 6 ∷ pos 8 ∷ []))
    ≡ bits (0 ∷ 0 ∷ 0 ∷ 0 ∷ 0x3ff8000000000000 ∷ 0x4004000000000000 ∷ []))
    × (cells_of (jurik_line 7 1 plus_one) (prices (pos 5 ∷ pos 5 ∷ pos 5 ∷ pos 6 ∷ pos 6 ∷ pos 6 ∷ pos 6 ∷ []))
    ≡ bits (0 ∷ 0 ∷ 0 ∷ 0x4018000000000000 ∷ 0xc041000000000000 ∷ 0x4053800000000000 ∷ 0xc061400000000000 ∷ []))
    × (cells_of (jurik_line 5 4 (of_int binary64 (negsuc 2))) (prices (pos 1 ∷ pos 2 ∷ pos 4 ∷ pos 3 ∷ pos 7 ∷ []))
    ≡ bits (0 ∷ 0 ∷ 0xc013ffffffffffff ∷ 0xc00d555555555556 ∷ 0xc02271c71c71c71c ∷ []))
unfolding jurik_line jurik_with smooth1 smooth2 jv_of jv price_change averaged copied first_differing change carried
    first_bar recur from_bar magnitude_of is_nan neg add sub mul div of_int of_bits round eq
jurik_zeros = (refl, refl, refl)

-- one bar; a power that is not finite before a window too long; a window of 0; no bars
jurik_answers : answered_with accepted (plus_zero ∷ []) (half ∷ []) (longest_window ∷ []) 1 (8 ∷ [])
    ∷ answered_with accepted (plus_zero ∷ []) (nan ∷ []) (suc longest_window ∷ []) 1 (8 ∷ [])
    ∷ answered_with accepted (plus_zero ∷ []) (half ∷ []) (suc longest_window ∷ []) 1 (8 ∷ [])
    ∷ answered_with accepted (plus_zero ∷ []) (half ∷ []) (0 ∷ []) 1 (8 ∷ [])
    ∷ answered_with accepted [] (half ∷ []) (3 ∷ []) 0 (0 ∷ [])
    ∷ []
    ≡ Ok 1 ∷ Err ParameterNotFinite ∷ Err WindowTooLong ∷ Ok 0 ∷ Ok 0 ∷ []
unfolding answered_with slices checked accepted finite lt eq le to_bits
jurik_answers = refl
