-- `answer` meets its contract: the rule of the number picks the call,
-- whose answer, cells and work these are. Assumes nothing.
use mathlib.Core.Path.{refl, sym}
use native.Mathlib.Omega.{arith}
use lib.Seq.{length-take-le}
use Rattle.sheet_requests.proofs.Answered.{middle_other, none_other, by_single, by_double, by_middle}
use Rattle.sheet_requests.proofs.answers.answer.Goals as goal

pub slice_bounds-prices-end : goal.slice_bounds-prices-end
slice_bounds-prices-end c = sym (length-take-le _ _ (omega arith))

pub returns-in-Some-Single : goal.returns-in-Some-Single
returns-in-Some-Single c =
    by_single (rw c.in-Some-Single.field-0-is at c.in-Some-Single.ensures)
    (rw (c.requires.1, c.requires.2) at c.single_sma_positions.ensures)

pub returns-in-Some-Double : goal.returns-in-Some-Double
returns-in-Some-Double c =
    by_double (rw c.in-Some-Double.field-0-is at c.in-Some-Double.ensures)
    (rw c.requires.1 at c.double_sma_positions.ensures) refl

pub returns-in-Some-Middle : goal.returns-in-Some-Middle
returns-in-Some-Middle c =
    by_middle (grind (arith, middle_other, none_other))
    (rw (c.requires.1, c.requires.2) at c.mid_positions.ensures)
