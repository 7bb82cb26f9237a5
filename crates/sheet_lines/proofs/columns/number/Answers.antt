-- `number` meets its contract: each turn takes one digit more,
-- and the number stays below a power of ten. Assumes nothing.
use mathlib.Core.Path.{sym, ◌∙◌}
use native.Mathlib.Omega.{arith}
use borrow.Author.Tests.{eqb-true, eqb-false}
use Rattle.sheet_lines.proofs.Reading.{no_digits, some_digits, few_digits}
use Rattle.sheet_lines.proofs.columns.number.Goals as goal

pub returns-then-is_empty : goal.returns-then-is_empty
returns-then-is_empty c =
    sym (no_digits c.args.digits.now (eqb-true _ _ (sym c.is_empty.ensures ∙ c.if-is_empty.true)))

pub loop-digit-init : goal.loop-digit-init
loop-digit-init c =
    let some = sym c.is_empty.ensures ∙ c.if-is_empty.false in
    (omega arith, some_digits c.args.digits.now (eqb-false _ _ some))

pub overflow_mul-value : goal.overflow_mul-value
overflow_mul-value c = omega (arith, few_digits c.loop-digit.digit-index (omega arith))

pub overflow_add-value : goal.overflow_add-value
overflow_add-value c = omega (arith, few_digits c.loop-digit.digit-index (omega arith))
