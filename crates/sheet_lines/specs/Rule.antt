-- The rules by the numbers that a request's line gives them: 1 is one average, 2 double, 3 middle. Assumes nothing.
use Rattle.std.specs.Prelude.{cond, ℕ, eqb, Option, Some, None}
use Rattle.sheet_lines.specs.declared.rule.Rule.{Rule}
use Rattle.sheet_lines.specs.declared.rule.Rule.TheVariants.{Single, Double, Middle}

abbrev pub rule_number : Rule → ℕ
rule_number Single = 1
rule_number Double = 2
rule_number Middle = 3

-- the rule of a number, if it is one
abbrev pub rule_of : ℕ → Option Rule
rule_of n = cond (eqb n 1) (Some Single) (cond (eqb n 2) (Some Double) (cond (eqb n 3) (Some Middle) None))
