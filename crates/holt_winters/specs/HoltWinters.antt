-- Additive Holt-Winters smoothing: what `holt_winters` answers and writes. C. C. Holt, 1957; P. R. Winters, Forecasting
-- Sales by Exponentially Weighted Moving Averages, 1960. Every operation is rounded once. Assumes nothing.
use Rattle.std.specs.Prelude.{cond, List, [], ◌∷◌, ℕ, zero, suc, ◌-◌, Float, ltb, length, Ok}
use Rattle.std.specs.Float.{binary64}
use Rattle.std.specs.Float.Ieee.{add, sub}
use Rattle.averages.specs.Blend.{blend}
use Rattle.holt_winters.specs.declared.Fit.{Fit}
use Rattle.holt_winters.specs.declared.Weights.{Weights}
use Rattle.cells.specs.Line.{Line, line, plus_zero}
use Rattle.windows.specs.Window.{mean}
use Rattle.values.specs.Accepted.{accepted}
use Rattle.calls.specs.Answer.{Answer, and_then, checked, limited, unless_empty, empty_if}
use Rattle.calls.specs.Call.{WorkCall}

-- A later bar, of price x: `last` is the bar before it, and `old` the seasonal part one season before it. Each part
-- blends what the price says with what was known.
unfoldable pub next_fit : Weights → Fit → Float → Float → Fit
next_fit w last old x =
    let level = blend w.alpha (add binary64 last.level last.trend) (sub binary64 x old) in
    let trend = blend w.beta last.trend (sub binary64 level last.level) in
    record { level = level; trend = trend; season = blend w.gamma old (sub binary64 x level) }

-- how much a new price weighs in the level, in the trend and in the seasonal part
abbrev pub weights : Float → Float → Float → Weights
weights alpha beta gamma = record { alpha = alpha; beta = beta; gamma = gamma }

-- a bar of the first season: the season's mean, no trend, and the price less the mean
abbrev pub first_fit : Float → Float → Fit
first_fit average x = record { level = average; trend = plus_zero; season = sub binary64 x average }

-- Bar i's level, trend and seasonal part, of seasons of m bars. A later bar is made from the bar before it and from the
-- seasonal part one season before it. The first number only lets the recursion end: any that is not below i gives the
-- same.
unfoldable pub fit_within : ℕ → ℕ → Weights → Line → ℕ → Fit
fit_within zero m w f i = first_fit (mean m f (m - 1)) (f i)
fit_within (suc more) m w f i =
    cond (ltb i m)
    (first_fit (mean m f (m - 1)) (f i))
    (next_fit w (fit_within more m w f (i - 1)) (fit_within more m w f (i - m)).season (f i))

unfoldable pub fit_line : ℕ → Weights → Line → ℕ → Fit
fit_line m w f i = fit_within i m w f i

-- level + trend + season
abbrev pub total : Fit → Float
total fit = add binary64 (add binary64 fit.level fit.trend) fit.season

-- the first season's cells are the prices
unfoldable pub holt_winters_line : ℕ → Weights → Line → Line
holt_winters_line m w f i = cond (ltb i m) (f i) (total (fit_line m w f i))

-- the season is a window, and the answer is empty also where it is longer than the series
unfoldable pub holt_winters_answer : List Float → ℕ → Weights → ℕ → ℕ → Answer
holt_winters_answer s m w output work =
    and_then (checked accepted (s ∷ []) (output ∷ []) (work ∷ []))
    (limited (w.alpha ∷ w.beta ∷ w.gamma ∷ []) (m ∷ []) []
    (unless_empty (length s) (m ∷ []) []
    (empty_if (ltb (length s) m)
    (Ok (length s)))))

-- what a call of `holt_winters` promises
abbrev pub HoltWintersCall : List Float → ℕ → Float → Float → Float → List Float → List Float → Answer → List Float
    → List Float → Type 0
HoltWintersCall s m alpha beta gamma out₀ work₀ =
    let w = weights alpha beta gamma in
    WorkCall (holt_winters_answer s m w (length out₀) (length work₀)) (holt_winters_line m w (line s)) out₀ (length s)
    work₀
