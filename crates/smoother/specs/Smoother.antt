-- The ultimate smoother of John Ehlers: what `ultimate_smoother` answers and writes. Assumes nothing.
use Rattle.std.specs.Prelude.{ℕ, zero, suc, List, [], ◌∷◌, length, Float, Ok}
use Rattle.std.specs.Float.{binary64}
use Rattle.std.specs.Float.Ieee.{add, sub, mul}
use Rattle.smoother_table.specs.declared.Coefficients.{Coefficients}
use Rattle.smoother_table.specs.Coefficients.{power, coefficients}
use Rattle.calls.specs.declared.Refusal.TheVariants.{ParameterNotFinite, WindowTooLong}
use Rattle.calls.specs.Answer.{Answer, checked, and_then, unless}
use Rattle.values.specs.Accepted.{accepted, finite}
use Rattle.cells.specs.Line.{Line, line}
use Rattle.smoother_table.specs.Period.{is_period, whole_part}
use Rattle.calls.specs.Call.{Call}

-- (1 - c1) * p0 + (2 * c1 - c2) * p1 - (c1 + c3) * p2 + c2 * us1 + c3 * us2, from left to right:
-- p0, p1 and p2 are the last three prices, the newest first, and us1 and us2 the last two cells
unfoldable pub formula : Coefficients → Float → Float → Float → Float → Float → Float
formula c p0 p1 p2 us1 us2 =
    let newest = mul binary64 (sub binary64 (power 0) c.c1) p0 in
    let second = mul binary64 (sub binary64 (mul binary64 (power 1) c.c1) c.c2) p1 in
    let third = mul binary64 (add binary64 c.c1 c.c3) p2 in
    add binary64 (add binary64 (sub binary64 (add binary64 newest second) third) (mul binary64 c.c2 us1))
    (mul binary64 c.c3 us2)

-- ---- the line

-- The first four cells copy the input, and from bar 4 on the formula holds.
unfoldable pub smooth : Coefficients → Line → Line
smooth c f zero = f 0
smooth c f (suc zero) = f 1
smooth c f (suc (suc zero)) = f 2
smooth c f (suc (suc (suc zero))) = f 3
smooth c f (suc (suc (suc (suc i)))) =
    formula c (f (suc (suc (suc (suc i))))) (f (suc (suc (suc i)))) (f (suc (suc i))) (smooth c f (suc (suc (suc i))))
    (smooth c f (suc (suc i)))

-- ---- the answer

-- No period makes the answer empty; with no bars the count is 0.
unfoldable pub smoother_answer : List Float → Float → ℕ → Answer
smoother_answer s period output =
    and_then (checked accepted (s ∷ []) (output ∷ []) [])
    (unless (finite period) ParameterNotFinite
    (unless (is_period period) WindowTooLong
    (Ok (length s))))

-- what a call of `ultimate_smoother` promises
abbrev pub UltimateSmootherCall : List Float → Float → List Float → Answer → List Float → Type 0
UltimateSmootherCall s period out₀ =
    Call (smoother_answer s period (length out₀)) (smooth (coefficients (whole_part period)) (line s)) out₀
