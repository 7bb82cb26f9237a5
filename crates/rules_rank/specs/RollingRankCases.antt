-- rolling_rank at small series, with the cells that pure.rs gives, and its answers. Assumes nothing.
use Rattle.std.specs.Prelude.{◌≡◌, refl, [], ◌∷◌, suc, pos, Ok, Err}
use Rattle.std.specs.Float.Ieee.{round, neg, add, sub, lt, eq, le, of_int, of_bits, to_bits}
use Rattle.limits.specs.Limits.{longest_window}
use Rattle.calls.specs.declared.Refusal.TheVariants.{WorkTooShort, WindowTooLong}
use Rattle.values.specs.Accepted.{accepted}
use Rattle.calls.specs.Answer.{slices, checked}
use Rattle.cells.specs.Line.{plus_zero, from_bar}
use Rattle.rounding.specs.Leaves.{magnitude_of}
use Rattle.cells.specs.Shown.{prices, bits, cells_of}
use Rattle.rounding.specs.Literals.{ten_to_minus}
use Rattle.ranks.specs.Counted.{count_from}
use Rattle.rules_rank.specs.RollingRank.{rolling_rank_line, rolling_rank_answer}

-- 3, 1, 2 with window 2 gives 0, 1, 2; windows 0, 1, as long as the series, and longer; equal values have one place,
-- zeros too
rolling_rank_cases : (cells_of (rolling_rank_line 2) (prices (pos 3 ∷ pos 1 ∷ pos 2 ∷ [])) ≡ (0 ∷ 1 ∷ 2 ∷ []))
    × (cells_of (rolling_rank_line 0) (prices (pos 3 ∷ pos 1 ∷ pos 2 ∷ [])) ≡ (0 ∷ 0 ∷ 0 ∷ []))
    × (cells_of (rolling_rank_line 1) (prices (pos 3 ∷ pos 1 ∷ pos 2 ∷ [])) ≡ (1 ∷ 1 ∷ 1 ∷ []))
    × (cells_of (rolling_rank_line 3) (prices (pos 3 ∷ pos 1 ∷ pos 2 ∷ [])) ≡ (0 ∷ 0 ∷ 2 ∷ []))
    × (cells_of (rolling_rank_line 3) (prices (pos 3 ∷ pos 1 ∷ [])) ≡ (0 ∷ 0 ∷ []))
    × (cells_of (rolling_rank_line 4) (prices (pos 2 ∷ pos 2 ∷ pos 1 ∷ pos 2 ∷ pos 3 ∷ pos 2 ∷ []))
    ≡ (0 ∷ 0 ∷ 0 ∷ 2 ∷ 4 ∷ 2 ∷ []))
    × (cells_of (rolling_rank_line 2) (prices (pos 0 ∷ pos 0 ∷ pos 0 ∷ [])) ≡ (0 ∷ 1 ∷ 1 ∷ []))
    × (cells_of (rolling_rank_line 1) (prices (pos 7 ∷ [])) ≡ (1 ∷ []))
unfolding rolling_rank_line count_from from_bar ten_to_minus magnitude_of neg add sub of_int of_bits round lt
rolling_rank_cases = (refl, refl, refl, refl, refl, refl, refl, refl)

-- values 4e-9 apart: the present one takes the place of the first within 1e-8, not its own; values 1e-8 apart are not
-- near; near 1 the difference is rounded: 1 + 1e-8 less 1 is below 1e-8 in f64
rolling_rank_clusters : (cells_of (rolling_rank_line 5) (bits (0 ∷ 0x3e312e0be826d695 ∷ 0x3e412e0be826d695
    ∷ 0x3e49c511dc3a41e0 ∷ 0x3e512e0be826d695 ∷ []))
    ≡ (0 ∷ 0 ∷ 0 ∷ 0 ∷ 3 ∷ []))
    × (cells_of (rolling_rank_line 5) (bits (0x3e512e0be826d695 ∷ 0x3e49c511dc3a41e0 ∷ 0x3e412e0be826d695
    ∷ 0x3e312e0be826d695 ∷ 0 ∷ []))
    ≡ (0 ∷ 0 ∷ 0 ∷ 0 ∷ 1 ∷ []))
    × (cells_of (rolling_rank_line 3) (bits (0 ∷ 0x3e45798ee2308c3a ∷ 0x3e55798ee2308c3a ∷ [])) ≡ (0 ∷ 0 ∷ 3 ∷ []))
    × (cells_of (rolling_rank_line 2) (bits (0x3ff0000000000000 ∷ 0x3ff0000002af31dc ∷ [])) ≡ (0 ∷ 1 ∷ []))
    × (cells_of (rolling_rank_line 3) (bits (0x3ff0000000000000 ∷ 0x3ff00000055e63b9 ∷ 0x3ff0000002af31dc ∷ []))
    ≡ (0 ∷ 0 ∷ 1 ∷ []))
unfolding rolling_rank_line count_from from_bar ten_to_minus magnitude_of neg add sub of_int of_bits round lt
rolling_rank_clusters = (refl, refl, refl, refl, refl)

-- three bars; a window of 0 is answered with all cells; a window too long; no bars; a work slice of 7 cells
rolling_rank_answers : rolling_rank_answer (plus_zero ∷ plus_zero ∷ plus_zero ∷ []) 2 3 24
    ∷ rolling_rank_answer (plus_zero ∷ []) 0 1 8
    ∷ rolling_rank_answer (plus_zero ∷ []) (suc longest_window) 1 8
    ∷ rolling_rank_answer [] 2 0 0
    ∷ rolling_rank_answer (plus_zero ∷ []) 0 1 7
    ∷ []
    ≡ Ok 3 ∷ Ok 1 ∷ Err WindowTooLong ∷ Ok 0 ∷ Err WorkTooShort ∷ []
unfolding rolling_rank_answer slices checked accepted lt eq le to_bits
rolling_rank_answers = refl
