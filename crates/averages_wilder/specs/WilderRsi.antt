-- Wilder's relative strength index: what `wilder_rsi` answers and writes. J. Welles Wilder, New Concepts in Technical
-- Trading Systems, 1978. Assumes nothing.
use Rattle.std.specs.Prelude.{false, cond, List, [], ◌∷◌, ℕ, pos, length, Float}
use Rattle.std.specs.Float.{nan, fin}
use Rattle.std.specs.Float.Ieee.{eq}
use Rattle.rounding.specs.Literals.{hundred}
use Rattle.values.specs.Accepted.{accepted}
use Rattle.calls.specs.Answer.{Answer, answered}
use Rattle.calls.specs.Call.{WorkCall}
use Rattle.cells.specs.Line.{Line, line, plus_zero, from_bar}
use Rattle.changes.specs.Changes.{gains, losses, rsi_formula}
use Rattle.averages_wilder.specs.Wilder.{wilder}

-- 50.0
abbrev pub fifty : Float
fifty = fin false 25 (pos 1)

-- The cell of an average gain and an average loss: where the loss is 0, 50 if the gain is 0 too and else 100. It goes
-- by the rounded averages, which fade by (n - 1) / n at a bar without a change. With n 1 they are 0 there at once; with
-- n 2 the prices 0, 1, 1, .. give 100 to bar 1,075 and 50 from bar 1,076 on; from n 3 on an average stays at a smallest
-- number above 0, which rounds back to itself.
abbrev pub wilder_cell : Float → Float → Float
wilder_cell gain loss = cond (eq loss plus_zero) (cond (eq gain plus_zero) fifty hundred) (rsi_formula gain loss)

-- the averages are seeded at bar n, by the changes of bars 1 to n; NaN earlier
unfoldable pub wilder_rsi_line : ℕ → Line → Line
wilder_rsi_line n f = from_bar n nan (λ i. wilder_cell (wilder n n (gains f) i) (wilder n n (losses f) i))

-- what a call of `wilder_rsi` promises
abbrev pub WilderRsiCall : List Float → ℕ → List Float → List Float → Answer → List Float → List Float → Type 0
WilderRsiCall s n out₀ work₀ =
    WorkCall (answered accepted s (n ∷ []) (length out₀) (length work₀ ∷ []))
    (wilder_rsi_line n (line s)) out₀ (length s) work₀
