-- rank_table_positions, our own: each rank of `rank_positions` looked up in a desk's table. Assumes nothing.
use Rattle.std.specs.Prelude.{cond, List, [], ◌∷◌, ℕ, ◌-◌, ◌*◌, ℤ, length, Float, Ok}
use Rattle.std.specs.Float.Ieee.{to_signed, is_nan}
use Rattle.values.specs.Accepted.{accepted}
use Rattle.cells.specs.Line.{Line, line, from_bar}
use Rattle.windows.specs.Window.{mean}
use Rattle.calls.specs.Answer.{Answer, checked, and_then, windowed}
use Rattle.calls.specs.Call.{WorkCall}
use Rattle.rules_held.specs.Held.{flat}
use Rattle.rules_rank.specs.Rank.{whole_rank, below_now}
use Rattle.rules_rank_table.specs.Table.{Row, rows_read, table_checked, position_for}

-- the rank of `rank_positions` for c of m means below, in whole hundredths: `to_signed 31` is Rust's `as i32`, for
-- which -0.0 is 0
abbrev pub rank_number : ℕ → ℕ → ℤ
rank_number c m = to_signed 31 (whole_rank c m)

-- its position: that of the row that covers it, and flat where the rank is NaN, which is not looked up
unfoldable pub table_position : List Row → ℕ → ℕ → ℤ
table_position rows c m = cond (is_nan (whole_rank c m)) flat (position_for (rank_number c m) rows)

-- the position of the mean's rank among the last n means, from bar 2n - 2 on
unfoldable pub rank_table_line : List Row → ℕ → Line → ℕ → ℤ
rank_table_line rows n f = from_bar (2 * n - 2) flat (λ i. table_position rows (below_now n (mean n f) i) (n - 1))

-- Refusals 1 to 5 and 7 and the empty answer, then those of the table.
unfoldable pub rank_table_answer : List Float → ℕ → List ℤ → ℕ → ℕ → Answer
rank_table_answer s n table output work =
    and_then (checked accepted (s ∷ []) (output ∷ []) (work ∷ []))
    (windowed (length s) (n ∷ []) (table_checked (rows_read table) (Ok (length s))))

-- what a call of `rank_table_positions` promises
abbrev pub RankTableCall : List Float → ℕ → List ℤ → List ℤ → List Float → Answer → List ℤ → List Float → Type 0
RankTableCall s n table out₀ work₀ =
    WorkCall (rank_table_answer s n table (length out₀) (length work₀)) (rank_table_line (rows_read table) n (line s))
    out₀
    (length s) work₀
