-- How a request is answered: by the rule of its number. Assumes nothing.
use Rattle.std.specs.Prelude.{◌≡◌, List, ℕ, ◌*◌, length, replicate, Float}
use Rattle.calls.specs.Answer.{Answer, cleared_of}
use Rattle.calls.specs.Call.{Call}
use Rattle.cells.specs.Line.{Line, line, plus_zero}
use Rattle.cells.specs.Written.{written}
use Rattle.rules.specs.ByNumber.{by_rule, answer_by_rule, line_by_rule}
use Rattle.sheet_lines.specs.declared.Request.{Request}
use Rattle.sheet_lines.specs.Header.{most_bars}

-- The program lends an output cell and eight work cells for each
-- of the most bars; src/lib.rt has a constant of the same number.
abbrev pub work_cells : ℕ
work_cells = 8 * most_bars

-- a work slice between two requests
unfoldable pub clear_work : List Float
clear_work = replicate work_cells plus_zero

unfoldable pub rule_answer : Request → List Float → Answer
rule_answer r prices = answer_by_rule r.rule r.n r.m prices most_bars work_cells

unfoldable pub rule_line : Request → List Float → Line
rule_line r prices = line_by_rule r.rule r.n r.m (line prices)

-- how many work cells are cleared: double takes no work slice
unfoldable pub rule_cleared : Request → List Float → Answer → ℕ
rule_cleared r prices a =
    by_rule r.rule (cleared_of a (8 * length prices)) 0 (cleared_of a (8 * length prices))

-- The contract of a request's call on these prices.
pub record RequestCall (r : Request) (prices out₀ work₀ : List Float) (a : Answer)
    (out₁ work₁ : List Float) : Type 0 where
  pub call : Call (rule_answer r prices) (rule_line r prices) out₀ a out₁
  pub work : work₁ ≡ written (rule_cleared r prices a) (λ i. plus_zero) work₀
