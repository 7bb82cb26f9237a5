-- A rule by its number: 1 is one average, 2 double, 3 middle; 1 and 3 ignore m. What a call of it answers, whose output
-- has `output` cells and whose work slice `work`, and the line of its cells. Assumes nothing.
use Rattle.std.specs.Prelude.{Bool, cond, ◌&&◌, List, [], ◌∷◌, ℕ, leb, eqb, Float}
use Rattle.values.specs.Accepted.{accepted}
use Rattle.calls.specs.Answer.{Answer, answered}
use Rattle.cells.specs.Line.{Line}
use Rattle.rules_single.specs.Single.{single_line}
use Rattle.rules_double.specs.Double.{double_line, double_answer}
use Rattle.rules_middle.specs.Middle.{mid_line}

-- rules 1, 2 and 3
abbrev pub is_rule : ℕ → Bool
is_rule rule = leb 1 rule && leb rule 3

abbrev pub by_rule : {A : Type 0} → ℕ → A → A → A → A
by_rule rule one double middle = cond (eqb rule 1) one (cond (eqb rule 2) double middle)

abbrev pub answer_by_rule : ℕ → ℕ → ℕ → List Float → ℕ → ℕ → Answer
answer_by_rule rule n m prices output work =
    by_rule rule
    (answered accepted prices (n ∷ []) output (work ∷ []))
    (double_answer prices n m output)
    (answered accepted prices (n ∷ []) output (work ∷ []))

abbrev pub line_by_rule : ℕ → ℕ → ℕ → Line → Line
line_by_rule rule n m f = by_rule rule (single_line n f) (double_line n m f) (mid_line n f)
