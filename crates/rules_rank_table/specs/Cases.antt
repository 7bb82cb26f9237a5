-- rank_table_positions at small series and tables, computed from the definition. Assumes nothing.
use Rattle.std.specs.Prelude.{◌≡◌, refl, List, [], ◌∷◌, ◌++◌, map, ℕ, zero, suc, ◌-◌, ◌^◌, ℤ, pos, negsuc, Ok, Err}
use Rattle.std.specs.Float.Ieee.{round, add, sub, mul, div, lt, eq, le, of_int, of_bits, to_bits, to_signed, is_nan}
use Rattle.limits.specs.Limits.{longest_window}
use Rattle.calls.specs.declared.Refusal.TheVariants.{WindowTooLong, CoveredTwice, NotCovered, PositionUnknown}
use Rattle.calls.specs.Answer.{Answer, slices, checked, windowed}
use Rattle.values.specs.Accepted.{accepted}
use Rattle.cells.specs.Line.{from_bar}
use Rattle.cells.specs.Search.{every_bar}
use Rattle.cells.specs.Shown.{prices, cells_of}
use Rattle.rounding.specs.Leaves.{round_to_whole}
use Rattle.windows.specs.Window.{sum_from, window_sum, mean}
use Rattle.ranks.specs.Counted.{count_from}
use Rattle.rules_held.specs.Held.{flat, long, short}
use Rattle.rules_rank.specs.Rank.{whole_rank, below_now}
use Rattle.rules_rank_table.specs.Table.{rows_read, cover_count, position_for, table_checked}
use Rattle.rules_rank_table.specs.RankTable.{rank_number, table_position, rank_table_line, rank_table_answer}

-- below 0 short, and long from 0 on
abbrev halves : List ℤ
halves = negsuc 99 ∷ negsuc 0 ∷ short ∷ pos 0 ∷ pos 100 ∷ long ∷ []

-- the same in another order, with ends at the limits of i32, a row that covers nothing, and an unfinished one
abbrev turned : List ℤ
turned =
    pos 0 ∷ pos (2 ^ 31 - 1) ∷ long ∷ pos 1 ∷ pos 0 ∷ flat ∷ negsuc (2 ^ 31 - 1) ∷ negsuc 0 ∷ short ∷ pos 5 ∷ pos 5 ∷ []

-- 3, 1, 2 with n 2 is -100 at bar 2; 1, 2, 3 is 100; n 1 is never looked up; no position where n exceeds the bars
rank_table_cases : (map (λ table. cells_of (rank_table_line (rows_read table) 2) (prices (pos 3 ∷ pos 1 ∷ pos 2 ∷ [])))
    (halves ∷ turned ∷ [])
    ≡ (flat ∷ flat ∷ short ∷ []) ∷ (flat ∷ flat ∷ short ∷ []) ∷ [])
    × (cells_of (rank_table_line (rows_read halves) 2) (prices (pos 1 ∷ pos 2 ∷ pos 3 ∷ [])) ≡ flat ∷ flat ∷ long ∷ [])
    × (cells_of (rank_table_line (rows_read halves) 1) (prices (pos 5 ∷ [])) ≡ flat ∷ [])
    × (cells_of (rank_table_line (rows_read halves) 3) (prices (pos 1 ∷ pos 2 ∷ [])) ≡ flat ∷ flat ∷ [])
unfolding rank_table_line table_position rows_read position_for whole_rank below_now count_from round_to_whole mean
    window_sum sum_from from_bar is_nan to_signed add sub mul div of_int of_bits round lt
rank_table_cases = (refl, refl, refl, refl)

-- 200 of 401 means below is -0.0 in hundredths, and 0 as a whole number; none of none is not looked up
rank_numbers : (rank_number 200 401 ∷ rank_number 199 401 ∷ rank_number 401 401 ∷ rank_number 17 80 ∷ []
    ≡ pos 0 ∷ negsuc 0 ∷ pos 100 ∷ negsuc 56 ∷ [])
    × (table_position (rows_read halves) 0 0 ∷ table_position (rows_read halves) 200 401 ∷ [] ≡ flat ∷ long ∷ [])
unfolding table_position rows_read position_for whole_rank round_to_whole is_nan to_signed sub mul div of_int of_bits
    round
rank_numbers = (refl, refl)

-- what the table's rows are answered with, before what is next
abbrev answer_to : List ℤ → Answer
answer_to table = table_checked (rows_read table) (Ok 7)

-- both tables are taken; no row; 0 left out, and 100; -100 covered twice, which comes before 3 left out and a wrong
-- position; a position of 2, also in a row that covers nothing
table_answers : map answer_to
    (halves ∷ turned ∷ []
    ∷ (negsuc 99 ∷ negsuc 0 ∷ short ∷ pos 1 ∷ pos 100 ∷ long ∷ [])
    ∷ (negsuc 99 ∷ pos 99 ∷ short ∷ [])
    ∷ (negsuc 99 ∷ pos 2 ∷ short ∷ negsuc 200 ∷ negsuc 99 ∷ pos 2 ∷ pos 4 ∷ pos 100 ∷ long ∷ [])
    ∷ (negsuc 99 ∷ pos 100 ∷ pos 2 ∷ [])
    ∷ (negsuc 99 ∷ pos 100 ∷ long ∷ pos 1 ∷ pos 0 ∷ negsuc 1 ∷ [])
    ∷ [])
    ≡ Ok 7 ∷ Ok 7 ∷ Err NotCovered ∷ Err NotCovered ∷ Err NotCovered ∷ Err CoveredTwice
    ∷ Err PositionUnknown ∷ Err PositionUnknown ∷ []
unfolding table_checked rows_read cover_count every_bar
table_answers = refl

-- a row that covers nothing, k times
abbrev nothing : ℕ → List ℤ
nothing zero = []
nothing (suc k) = pos 1 ∷ pos 0 ∷ flat ∷ nothing k

-- a 16th row is read, and a 17th is not
sixteen_rows : map (λ k. answer_to (nothing k ++ halves)) (14 ∷ 15 ∷ []) ≡ Ok 7 ∷ Err NotCovered ∷ []
unfolding table_checked rows_read cover_count every_bar
sixteen_rows = refl

-- one bar and no row: n 1 looks at the table, n 0 does not, and a window too long is refused before it; no bars
rank_table_answers : map (λ n. rank_table_answer (prices (pos 5 ∷ [])) n [] 1 8)
    (1 ∷ 0 ∷ longest_window ∷ suc longest_window ∷ [])
    ++ rank_table_answer (prices (pos 5 ∷ [])) 1 halves 1 8
    ∷ rank_table_answer [] 1 [] 0 0
    ∷ []
    ≡ Err NotCovered ∷ Ok 0 ∷ Err NotCovered ∷ Err WindowTooLong ∷ Ok 1 ∷ Ok 0 ∷ []
unfolding rank_table_answer table_checked rows_read cover_count every_bar slices checked windowed accepted of_int round
    lt eq le to_bits
rank_table_answers = refl
