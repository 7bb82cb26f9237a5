-- mms_positions: where the mean stands between the lowest and the highest of the last means, as min-max scaling to -1
-- and 1 gives it (scikit-learn's MinMaxScaler over a moving window). Assumes nothing.
use Rattle.std.specs.Prelude.{cond, List, [], ◌∷◌, ℕ, ◌+◌, ◌-◌, Float, length}
use Rattle.std.specs.Float.{binary64}
use Rattle.std.specs.Float.Ieee.{sub, mul, div, lt}
use Rattle.cells.specs.Line.{Line, plus_zero, from_bar, line}
use Rattle.rounding.specs.Leaves.{plus_one, two, magnitude_of}
use Rattle.rounding.specs.Literals.{ten_to_minus}
use Rattle.windows.specs.Window.{mean}
use Rattle.extremes.specs.Extreme.{larger, smaller, extreme}
use Rattle.calls.specs.Answer.{answered, Answer}
use Rattle.calls.specs.Call.{WorkCall}
use Rattle.values.specs.Accepted.{accepted}

-- (average - low) / spread · 2 - 1
abbrev pub scaled_by : Float → Float → Float → Float
scaled_by average low spread =
    sub binary64 (mul binary64 (div binary64 (sub binary64 average low) spread) two) plus_one

-- the same by the spread high - low, and 0 where the spread's size is at most 1e-10
abbrev pub scaled_between : Float → Float → Float → Float
scaled_between average high low =
    let spread = sub binary64 high low in
    cond (lt (ten_to_minus 10) (magnitude_of spread)) (scaled_by average low spread) plus_zero

-- the mean of n bars among the last w of these means, from bar n + w - 2 on
unfoldable pub mms_line : ℕ → ℕ → Line → Line
mms_line n w f =
    let means = mean n f in
    from_bar (n + w - 2) plus_zero
    (λ i. scaled_between (means i) (extreme larger w means i) (extreme smaller w means i))

-- what a call of `mms_positions` answers
abbrev pub mms_answer : List Float → ℕ → ℕ → ℕ → ℕ → Answer
mms_answer s timeperiod window output work = answered accepted s (timeperiod ∷ window ∷ []) output (work ∷ [])

-- what a call of `mms_positions` promises
abbrev pub MmsCall : List Float → ℕ → ℕ → List Float → List Float → Answer → List Float → List Float → Type 0
MmsCall s timeperiod window out₀ work₀ =
    WorkCall (mms_answer s timeperiod window (length out₀) (length work₀)) (mms_line timeperiod window (line s)) out₀
    (length s) work₀
