-- rank_positions of pure.rs: how many of the means before the present one lie below it, moved to -1 .. 1 and rounded to
-- hundredths. Assumes nothing.
use Rattle.std.specs.Prelude.{List, [], ◌∷◌, ℕ, ◌+◌, ◌-◌, ◌*◌, pos, Float, length}
use Rattle.std.specs.Float.{binary64}
use Rattle.std.specs.Float.Ieee.{sub, mul, div, of_int}
use Rattle.rounding.specs.Leaves.{two, round_to_whole}
use Rattle.rounding.specs.Literals.{half, hundred}
use Rattle.windows.specs.Window.{over, mean}
use Rattle.cells.specs.Line.{Line, line, plus_zero, from_bar}
use Rattle.ranks.specs.Counted.{below, count_from}
use Rattle.values.specs.Accepted.{accepted}
use Rattle.calls.specs.Answer.{Answer, answered}
use Rattle.calls.specs.Call.{WorkCall}

-- c of m: c / m, moved from 0 .. 1 to -1 .. 1; NaN where m is 0
abbrev pub share : ℕ → ℕ → Float
share c m = mul binary64 (sub binary64 (over m (of_int binary64 (pos c))) half) two

-- the same in whole hundredths, half away from zero: from -100 to 100, -0.0 among them
unfoldable pub whole_rank : ℕ → ℕ → Float
whole_rank c m = round_to_whole (mul binary64 (share c m) hundred)

-- the position: those hundredths over 100
abbrev pub rank_of : ℕ → ℕ → Float
rank_of c m = div binary64 (whole_rank c m) hundred

-- how many of the n - 1 cells before bar i lie below the cell of bar i
unfoldable pub below_now : ℕ → Line → ℕ → ℕ
below_now n f i = count_from (below (f i)) f (i + 1 - n) (n - 1)

-- the mean of n bars among the last n means, from bar 2n - 2 on
unfoldable pub rank_line : ℕ → Line → Line
rank_line n f = from_bar (2 * n - 2) plus_zero (λ i. rank_of (below_now n (mean n f) i) (n - 1))

-- what a call of `rank_positions` promises
abbrev pub RankCall : List Float → ℕ → List Float → List Float → Answer → List Float → List Float → Type 0
RankCall s n out₀ work₀ =
    WorkCall (answered accepted s (n ∷ []) (length out₀) (length work₀ ∷ [])) (rank_line n (line s)) out₀ (length s)
    work₀
