-- rsx_ss2 at small series, with the cells that pure.rs gave, and its answers. Assumes nothing.
use Rattle.std.specs.Prelude.{◌≡◌, refl, [], ◌∷◌, ℕ, suc, pos, Ok, Err}
use Rattle.std.specs.Float.{nan}
use Rattle.std.specs.Float.Ieee.{round, neg, add, sub, mul, div, lt, eq, le, of_int, of_bits, to_bits}
use Rattle.limits.specs.Limits.{longest_window, longest_period}
use Rattle.rounding.specs.Literals.{hundred}
use Rattle.values.specs.Accepted.{accepted, finite}
use Rattle.calls.specs.declared.Refusal.TheVariants.{WindowTooLong}
use Rattle.calls.specs.Answer.{Answer, slices, checked}
use Rattle.cells.specs.Line.{plus_zero, from_bar}
use Rattle.cells.specs.Recur.{recur, carried}
use Rattle.cells.specs.Shown.{prices, bits, cells_of}
use Rattle.smoother_table.specs.Recorded.{a1_bits, b1_bits}
use Rattle.smoother_table.specs.Coefficients.{a1_table, b1_table, a1_of, b1_of, of_pair, coefficients}
use Rattle.smoother.specs.Smoother.{formula, smooth}
use Rattle.changes.specs.Changes.{change, gains, losses, rsi}
use Rattle.rsx.specs.Rsx.{rsx_unsmoothed, rsx_line, rsx_answer}

-- n 3 and m 5: bar 0 is NaN, three cells copy the index, and then it is smoothed; n 1 weighs the last change alone
rsx_cases : (cells_of (rsx_line 3 5) (prices (pos 1 ∷ pos 2 ∷ pos 4 ∷ pos 3 ∷ pos 3 ∷ pos 5 ∷ pos 4 ∷ []))
    ≡ bits (0x7ff8000000000000 ∷ 0x4059000000000000 ∷ 0x4059000000000000 ∷ 0x4050000000000000 ∷ 0x40486787897474b8
    ∷ 0x40513f1dbf268d10 ∷ 0x40525dc8054f24e1 ∷ []))
    × (cells_of (rsx_line 1 2) (prices (pos 3 ∷ pos 1 ∷ pos 2 ∷ pos 2 ∷ pos 5 ∷ pos 4 ∷ []))
    ≡ bits (0x7ff8000000000000 ∷ 0 ∷ 0x4059000000000000 ∷ 0x4059000000000000 ∷ 0x4059000000000000
    ∷ 0x40360296393a0e72 ∷ []))
unfolding rsx_line rsx_unsmoothed smooth formula coefficients of_pair a1_of b1_of a1_table b1_table a1_bits b1_bits
    carried recur from_bar gains losses change rsi neg add sub mul div of_int of_bits round lt eq
rsx_cases = (refl, refl)

-- no change at all gives 100; only falls give 0; one bar; two bars
rsx_edges : (cells_of (rsx_line 2 3) (prices (pos 5 ∷ pos 5 ∷ pos 5 ∷ pos 5 ∷ pos 5 ∷ []))
    ≡ nan ∷ hundred ∷ hundred ∷ hundred ∷ hundred ∷ [])
    × (cells_of (rsx_line 2 20) (prices (pos 5 ∷ pos 4 ∷ pos 3 ∷ pos 2 ∷ pos 1 ∷ pos 0 ∷ []))
    ≡ nan ∷ plus_zero ∷ plus_zero ∷ plus_zero ∷ plus_zero ∷ plus_zero ∷ [])
    × (cells_of (rsx_line 1 1) (prices (pos 7 ∷ [])) ≡ nan ∷ [])
    × (cells_of (rsx_line 3 512) (prices (pos 0 ∷ pos 0 ∷ [])) ≡ nan ∷ hundred ∷ [])
unfolding rsx_line rsx_unsmoothed smooth formula coefficients of_pair a1_of b1_of a1_table b1_table a1_bits b1_bits
    carried recur from_bar gains losses change rsi neg add sub mul div of_int of_bits round lt eq
rsx_edges = (refl, refl, refl, refl)

abbrev one_bar : ℕ → ℕ → Answer
one_bar n m = rsx_answer (plus_zero ∷ []) n m 1 8

-- the longest window and one longer; the longest period and one longer; either of 0; no bars
rsx_answers : one_bar longest_window longest_period ∷ one_bar (suc longest_window) 0 ∷ one_bar 0 (suc longest_period)
    ∷ one_bar 0 5 ∷ one_bar 5 0 ∷ rsx_answer [] 5 5 0 0 ∷ []
    ≡ Ok 1 ∷ Err WindowTooLong ∷ Err WindowTooLong ∷ Ok 0 ∷ Ok 0 ∷ Ok 0 ∷ []
unfolding rsx_answer slices checked accepted finite lt eq le to_bits
rsx_answers = refl
