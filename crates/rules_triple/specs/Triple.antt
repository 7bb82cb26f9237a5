-- triple_sma_positions: the mean against a long average of means, and a short average of means against a middle one
-- (the triple moving average crossover, on averages of averages). Assumes nothing.
use Rattle.std.specs.Prelude.{cond, ◌&&◌, List, [], ◌∷◌, ℕ, ◌+◌, ◌-◌, leb, ltb, ℤ, length, Float, Ok}
use Rattle.std.specs.Float.Ieee.{lt}
use Rattle.calls.specs.declared.Refusal.TheVariants.{SeriesTooShort, WindowsOutOfOrder}
use Rattle.calls.specs.Answer.{Answer, checked, and_then, unless, windowed}
use Rattle.rules_held.specs.Held.{flat, long, short}
use Rattle.calls.specs.Call.{WorkCall}
use Rattle.values.specs.Accepted.{accepted}
use Rattle.cells.specs.Line.{Line, line, from_bar}
use Rattle.windows.specs.Window.{mean}

-- long if the mean is above ma3 and ma1 above ma2, short if both are below, else flat
abbrev pub trend_of : Float → Float → Float → Float → ℤ
trend_of average ma1 ma2 ma3 =
    cond (lt ma3 average && lt ma2 ma1) long (cond (lt average ma3 && lt ma1 ma2) short flat)

-- the means of m1 bars, and their own means over m1, m2 and m3 of them: all are there from bar m1 + m3 - 2 on
unfoldable pub triple_line : ℕ → ℕ → ℕ → Line → ℕ → ℤ
triple_line m1 m2 m3 f =
    let means = mean m1 f in
    from_bar (m1 + m3 - 2) flat (λ i. trend_of (means i) (mean m1 means i) (mean m2 means i) (mean m3 means i))

-- after the empty answer, refusal 8 where m3 exceeds L, then 9 where the windows do not rise
unfoldable pub triple_answer : List Float → ℕ → ℕ → ℕ → ℕ → ℕ → Answer
triple_answer s m1 m2 m3 output work =
    and_then (checked accepted (s ∷ []) (output ∷ []) (work ∷ []))
    (windowed (length s) (m1 ∷ m2 ∷ m3 ∷ [])
    (unless (leb m3 (length s)) SeriesTooShort
    (unless (ltb m1 m2 && ltb m2 m3) WindowsOutOfOrder
    (Ok (length s)))))

-- what a call of `triple_sma_positions` promises
abbrev pub TripleCall : List Float → ℕ → ℕ → ℕ → List ℤ → List Float → Answer → List ℤ → List Float → Type 0
TripleCall s m1 m2 m3 out₀ work₀ =
    WorkCall (triple_answer s m1 m2 m3 (length out₀) (length work₀)) (triple_line m1 m2 m3 (line s)) out₀ (length s)
    work₀
