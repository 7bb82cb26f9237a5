-- rolling_rank of pure.rs: the place, from 1, in the sorted window of the first value less than 1e-8 away from the
-- present one; 0 where there is none. No sorting: the values before that place are those that lie below by 1e-8 or
-- more. Assumes nothing.
use Rattle.std.specs.Prelude.{Bool, not, ◌&&◌, List, [], ◌∷◌, ℕ, zero, suc, ◌-◌, length, Float, Ok}
use Rattle.std.specs.Float.{binary64}
use Rattle.std.specs.Float.Ieee.{sub, lt}
use Rattle.cells.specs.Line.{Line, line, from_bar}
use Rattle.rounding.specs.Leaves.{magnitude_of}
use Rattle.rounding.specs.Literals.{ten_to_minus}
use Rattle.ranks.specs.Counted.{count_from}
use Rattle.values.specs.Accepted.{accepted}
use Rattle.calls.specs.Answer.{Answer, and_then, checked, limited, unless_empty}
use Rattle.calls.specs.Call.{WorkCall}

-- x is less than 1e-8 away from the value, as the rounded difference says
abbrev pub near : Float → Float → Bool
near value x = lt (magnitude_of (sub binary64 x value)) (ten_to_minus 8)

-- x lies below it, and not so near
abbrev pub well_below : Float → Float → Bool
well_below value x = lt x value && not (near value x)

-- one more than how many of the last w cells lie well below that of bar i; 0 before bar w - 1, and at every bar for a
-- window of none
unfoldable pub rolling_rank_line : ℕ → Line → ℕ → ℕ
rolling_rank_line zero f = λ i. 0
rolling_rank_line (suc k) f = from_bar k 0 (λ i. suc (count_from (well_below (f i)) f (i - k) (suc k)))

-- Refusals 1 to 5, then 7, then the empty answer for no bars. A window of none is no reason for it.
unfoldable pub rolling_rank_answer : List Float → ℕ → ℕ → ℕ → Answer
rolling_rank_answer s w output work =
    and_then (checked accepted (s ∷ []) (output ∷ []) (work ∷ []))
    (limited [] (w ∷ []) [] (unless_empty (length s) [] [] (Ok (length s))))

-- what a call of `rolling_rank` promises
abbrev pub RollingRankCall : List Float → ℕ → List ℕ → List Float → Answer → List ℕ → List Float → Type 0
RollingRankCall s w out₀ work₀ =
    WorkCall (rolling_rank_answer s w (length out₀) (length work₀)) (rolling_rank_line w (line s)) out₀ (length s) work₀
