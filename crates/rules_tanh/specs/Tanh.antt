-- tanh_positions of pure.rs: how many deviations the mean of n prices lies above the mean of the last n such means, and
-- tanh of that in hundredths, which a recorded table gives. Assumes nothing.
use Rattle.std.specs.Prelude.{Bool, cond, List, [], ◌∷◌, map, ℕ, zero, suc, ◌-◌, ◌*◌, pos, length, get_or, Float}
use Rattle.std.specs.Float.{nan, binary64}
use Rattle.std.specs.Float.Ieee.{sub, mul, div, lt, le, of_int, of_bits}
use Rattle.rounding.specs.Leaves.{magnitude_of, sign_of}
use Rattle.rounding.specs.Literals.{hundred}
use Rattle.cells.specs.Line.{Line, line, plus_zero, minus_zero, from_bar}
use Rattle.windows.specs.Window.{mean}
use Rattle.deviations.specs.Deviation.{deviation}
use Rattle.values.specs.Accepted.{accepted}
use Rattle.calls.specs.Answer.{Answer, answered}
use Rattle.calls.specs.Call.{WorkCall}
use Rattle.rules_tanh.specs.Recorded.{threshold_bits}

-- the recorded thresholds, that of 1 first
unfoldable pub thresholds : List Float
thresholds = map (of_bits binary64) threshold_bits

-- the threshold of k, from 1 to 100: the smallest size of a score that gives k hundredths or more; that of 0 is 0
unfoldable pub threshold_of : ℕ → Float
threshold_of k = get_or (plus_zero ∷ thresholds) k nan

-- the largest k from 1 to n that passes, and 0 where none does
unfoldable pub largest_to : ℕ → (ℕ → Bool) → ℕ
largest_to zero test = 0
largest_to (suc k) test = cond (test (suc k)) (suc k) (largest_to k test)

-- the largest k from 1 to 100 whose threshold is at most a size, and 0 where none is
unfoldable pub steps_of : Float → ℕ
steps_of size = largest_to 100 (λ k. le (threshold_of k) size)

-- that many hundredths, with the sign of the score, which a zero has too; NaN where the score is no number
unfoldable pub tanh_cell : Float → Float
tanh_cell score =
    mul binary64 (sign_of score) (div binary64 (of_int binary64 (pos (steps_of (magnitude_of score)))) hundred)

-- how many widths an average lies above a middle; +0.0 where the width is not above 0
abbrev pub score_of : Float → Float → Float → Float
score_of average middle width = cond (lt plus_zero width) (div binary64 (sub binary64 average middle) width) plus_zero

-- the score of a line's cell against its last n cells: the middle is their mean, the width their deviation over n - 1
abbrev pub score : ℕ → Line → Line
score n g i = score_of (g i) (mean n g i) (deviation minus_zero (n - 1) n g i)

-- the cells of a line of means, from bar 2n - 2 on
unfoldable pub tanh_of_means : ℕ → Line → Line
tanh_of_means n g = from_bar (2 * n - 2) plus_zero (λ i. tanh_cell (score n g i))

-- the means are those of the last n prices
abbrev pub tanh_line : ℕ → Line → Line
tanh_line n f = tanh_of_means n (mean n f)

-- what a call of `tanh_positions` promises
abbrev pub TanhCall : List Float → ℕ → List Float → List Float → Answer → List Float → List Float → Type 0
TanhCall s n out₀ work₀ =
    WorkCall (answered accepted s (n ∷ []) (length out₀) (length work₀ ∷ [])) (tanh_line n (line s)) out₀ (length s)
    work₀
