-- rank_positions at small series, with the cells that pure.rs gives. Assumes nothing.
use Rattle.std.specs.Prelude.{◌≡◌, refl, [], ◌∷◌, map, suc, pos, Ok, Err}
use Rattle.std.specs.Float.{nan}
use Rattle.std.specs.Float.Ieee.{round, add, sub, mul, div, lt, eq, le, of_int, of_bits, to_bits}
use Rattle.limits.specs.Limits.{longest_window}
use Rattle.calls.specs.declared.Refusal.TheVariants.{WindowTooLong}
use Rattle.calls.specs.Answer.{slices, checked, windowed, answered}
use Rattle.values.specs.Accepted.{accepted}
use Rattle.cells.specs.Line.{plus_zero, minus_zero, from_bar}
use Rattle.cells.specs.Shown.{num, prices, bits, cells_of}
use Rattle.rounding.specs.Leaves.{plus_one, minus_one, round_to_whole}
use Rattle.windows.specs.Window.{sum_from, window_sum, mean}
use Rattle.ranks.specs.Counted.{count_from}
use Rattle.rules_rank.specs.Rank.{whole_rank, rank_of, below_now, rank_line}

-- 1, 2, 3 with n 2 gives 0, 0, 1; n 1 gives NaN; n 3 gives -1, 0 or 1; n 4 gives thirds, rounded to hundredths
rank_cases : (cells_of (rank_line 2) (prices (pos 1 ∷ pos 2 ∷ pos 3 ∷ [])) ≡ plus_zero ∷ plus_zero ∷ plus_one ∷ [])
    × (cells_of (rank_line 1) (prices (pos 5 ∷ [])) ≡ nan ∷ [])
    × (cells_of (rank_line 1) (prices (pos 1 ∷ pos 2 ∷ [])) ≡ nan ∷ nan ∷ [])
    × (cells_of (rank_line 3) (prices (pos 1 ∷ pos 2 ∷ pos 3 ∷ pos 4 ∷ pos 3 ∷ pos 2 ∷ pos 1 ∷ pos 4 ∷ []))
    ≡ plus_zero ∷ plus_zero ∷ plus_zero ∷ plus_zero ∷ plus_one ∷ minus_one ∷ minus_one ∷ plus_zero ∷ [])
    × (cells_of (rank_line 4) (prices (pos 1 ∷ pos 2 ∷ pos 3 ∷ pos 4 ∷ pos 5 ∷ pos 6 ∷ pos 7 ∷ pos 1 ∷ pos 5 ∷ []))
    ≡ bits (0 ∷ 0 ∷ 0 ∷ 0 ∷ 0 ∷ 0 ∷ 0x3ff0000000000000 ∷ 0x3fd51eb851eb851f ∷ 0xbfd51eb851eb851f ∷ []))
unfolding rank_line whole_rank below_now count_from round_to_whole mean window_sum sum_from from_bar
    add sub mul div of_int of_bits round lt
rank_cases = (refl, refl, refl, refl, refl)

-- equal means are not below, nor are zeros; n as long as the series, and longer; n 2 of one bar
rank_edges : (cells_of (rank_line 2) (prices (pos 5 ∷ pos 5 ∷ pos 5 ∷ pos 5 ∷ []))
    ≡ plus_zero ∷ plus_zero ∷ minus_one ∷ minus_one ∷ [])
    × (cells_of (rank_line 2) (prices (pos 0 ∷ pos 0 ∷ pos 0 ∷ [])) ≡ plus_zero ∷ plus_zero ∷ minus_one ∷ [])
    × (cells_of (rank_line 3) (prices (pos 1 ∷ pos 2 ∷ pos 3 ∷ [])) ≡ plus_zero ∷ plus_zero ∷ plus_zero ∷ [])
    × (cells_of (rank_line 3) (prices (pos 1 ∷ pos 2 ∷ [])) ≡ plus_zero ∷ plus_zero ∷ [])
    × (cells_of (rank_line 2) (prices (pos 7 ∷ [])) ≡ plus_zero ∷ [])
unfolding rank_line whole_rank below_now count_from round_to_whole mean window_sum sum_from from_bar
    add sub mul div of_int of_bits round lt
rank_edges = (refl, refl, refl, refl, refl)

-- whole hundredths: 1, 2 and 3 of 4; 200 of 401, just below the middle, is -0.0 in hundredths and as a position; none
-- of none is NaN
whole_ranks : (map (λ c. whole_rank c 4) (1 ∷ 2 ∷ 3 ∷ []) ≡ bits (0xc049000000000000 ∷ 0 ∷ 0x4049000000000000 ∷ []))
    × (whole_rank 200 401 ∷ rank_of 200 401 ∷ whole_rank 201 401 ∷ whole_rank 0 0 ∷ []
    ≡ minus_zero ∷ minus_zero ∷ plus_zero ∷ nan ∷ [])
    × (whole_rank 199 401 ∷ whole_rank 401 401 ∷ [] ≡ minus_one ∷ num 100 ∷ [])
unfolding whole_rank round_to_whole sub mul div of_int of_bits round
whole_ranks = (refl, refl, refl)

-- one bar; a window of 0; a window too long; no bars
rank_answers : map (λ n. answered accepted (plus_zero ∷ []) (n ∷ []) 1 (8 ∷ []))
    (1 ∷ 0 ∷ longest_window ∷ suc longest_window ∷ [])
    ≡ Ok 1 ∷ Ok 0 ∷ Ok 1 ∷ Err WindowTooLong ∷ []
unfolding answered slices checked windowed accepted lt eq le to_bits
rank_answers = refl
