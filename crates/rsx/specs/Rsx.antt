-- The relative strength index of exponential averages, smoothed: what `rsx_ss2` answers and writes. The averages are
-- those of pandas' ewm(alpha = 1 / n, adjust = False), and the smoother is Ehlers'. Assumes nothing.
use Rattle.std.specs.Prelude.{List, [], ◌∷◌, ℕ, length, Float, Ok}
use Rattle.std.specs.Float.{nan}
use Rattle.rounding.specs.Leaves.{plus_one}
use Rattle.values.specs.Accepted.{accepted}
use Rattle.calls.specs.Answer.{Answer, and_then, checked, limited, unless_empty}
use Rattle.calls.specs.Call.{WorkCall}
use Rattle.cells.specs.Line.{Line, line, from_bar}
use Rattle.windows.specs.Window.{over}
use Rattle.averages.specs.ExponentialSmoothing.{exponential_line}
use Rattle.smoother_table.specs.Coefficients.{coefficients}
use Rattle.smoother.specs.Smoother.{smooth}
use Rattle.changes.specs.Changes.{gains, losses, rsi}

-- The averages start from 0.0 at bar 0, and weigh each later bar by 1 / n. There is no index at bar 0.
unfoldable pub rsx_unsmoothed : ℕ → Line → Line
rsx_unsmoothed n f =
    let average = exponential_line (over n plus_one) in
    from_bar 1 nan (λ i. rsi (average (gains f) i) (average (losses f) i))

-- smoothed with the period m, so that the first four cells copy the index, NaN first
unfoldable pub rsx_line : ℕ → ℕ → Line → Line
rsx_line n m f = smooth (coefficients m) (rsx_unsmoothed n f)

-- n is a window, and m a smoother period
unfoldable pub rsx_answer : List Float → ℕ → ℕ → ℕ → ℕ → Answer
rsx_answer s n m output work =
    and_then (checked accepted (s ∷ []) (output ∷ []) (work ∷ []))
    (limited [] (n ∷ []) (m ∷ [])
    (unless_empty (length s) (n ∷ []) (m ∷ [])
    (Ok (length s))))

-- what a call of `rsx_ss2` promises
abbrev pub RsxCall : List Float → ℕ → ℕ → List Float → List Float → Answer → List Float → List Float → Type 0
RsxCall s n m out₀ work₀ =
    WorkCall (rsx_answer s n m (length out₀) (length work₀)) (rsx_line n m (line s)) out₀ (length s) work₀
