-- The ultimate channel: what `ultimate_channel` answers and writes. John Ehlers' ultimate smoother of the close, and
-- beside it a multiple of the smoothed average true range of J. Welles Wilder, New Concepts in Technical Trading
-- Systems, 1978. Assumes nothing.
use Rattle.std.specs.Prelude.{List, [], ◌∷◌, ℕ, ◌+◌, ◌-◌, ◌/◌, leb, length, Float, Ok, Option}
use Rattle.values.specs.Accepted.{accepted}
use Rattle.calls.specs.declared.Refusal.TheVariants.{SeriesTooShort}
use Rattle.calls.specs.Answer.{Answer, unless, and_then, checked, limited, unless_empty}
use Rattle.calls.specs.Call.{BandCall}
use Rattle.cells.specs.Line.{Line, line}
use Rattle.true_range.specs.TrueRange.{close_before, true_ranges, close_checked}
use Rattle.averages_wilder.specs.Wilder.{wilder}
use Rattle.smoother_table.specs.Coefficients.{coefficients}
use Rattle.smoother.specs.Smoother.{smooth}
use Rattle.outer_lines.specs.OuterLines.{upper_line, lower_line}

-- ---- the lines

abbrev pub channel_middle : ℕ → Line → Line
channel_middle n close = smooth (coefficients n) close

-- Wilder's average of true range, from bar n - 1 on and NaN earlier
unfoldable pub average_range : ℕ → Option Float → Line → Line → Line → Line
average_range n first high low close = wilder n (n - 1) (true_ranges high low (close_before first close))

-- smoothed with half the period: with period 1 that is 0, which gives NaN from bar 4 on
unfoldable pub channel_width : ℕ → Option Float → Line → Line → Line → Line
channel_width n first high low close = smooth (coefficients (n / 2)) (average_range n first high low close)

-- k widths above the middle, and k below it
abbrev pub channel_upper : ℕ → Float → Option Float → Line → Line → Line → Line
channel_upper n k first high low close = upper_line k (channel_middle n close) (channel_width n first high low close)

abbrev pub channel_lower : ℕ → Float → Option Float → Line → Line → Line → Line
channel_lower n k first high low close = lower_line k (channel_middle n close) (channel_width n first high low close)

-- ---- the answer

-- After the empty answer, a period may exceed the bars by one at most.
unfoldable pub channel_answer : List Float → List Float → List Float → ℕ → Float → Option Float → List ℕ → ℕ → Answer
channel_answer high low close n k first outputs work =
    and_then (checked accepted (high ∷ low ∷ close ∷ []) outputs (work ∷ []))
    (close_checked first
    (limited (k ∷ []) [] (n ∷ [])
    (unless_empty (length high) [] (n ∷ [])
    (unless (leb n (length high + 1)) SeriesTooShort
    (Ok (length high))))))

-- what a call of `ultimate_channel` promises, of the period n, the multiplier k and the close before bar 0
abbrev pub ChannelCall : List Float → List Float → List Float → ℕ → Float → Option Float → List Float → List Float
    → List Float → List Float → Answer → List Float → List Float → List Float → List Float → Type 0
ChannelCall high low close n k first middle₀ upper₀ lower₀ work₀ =
    let h = line high in
    let l = line low in
    let c = line close in
    BandCall
    (channel_answer high low close n k first (length middle₀ ∷ length upper₀ ∷ length lower₀ ∷ []) (length work₀))
    (channel_middle n c) (channel_upper n k first h l c) (channel_lower n k first h l c)
    middle₀ upper₀ lower₀ (length high) work₀
