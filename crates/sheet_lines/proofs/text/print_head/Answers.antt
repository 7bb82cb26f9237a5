-- `print_head` meets its contract: the four fields follow each other, and the line feed follows them. Assumes nothing.
use mathlib.Core.Path.{◌∙◌}
use Prim.Native.Nat.{◌+◌}
use native.Mathlib.Omega.{arith}
use lib.ListN.{length-set}
use Rattle.sheet_lines.proofs.Printing.{add_byte, add_more}
use Rattle.sheet_lines.specs.Printed.{head_line}
use Rattle.sheet_lines.proofs.text.print_head.Goals as goal

pub shape_of-text : goal.shape_of-text
shape_of-text c =
    simp length-set
    (c.print_field-4.auto.text ∙ c.print_field-3.auto.text ∙ c.print_field-2.auto.text
    ∙ c.print_field.auto.text)

pub returns : goal.returns
unfolding head_line
returns c =
    let at = c.args.at in
    add_more c.print_field.ensures
    (add_more c.print_field-2.ensures
    (add_more c.print_field-3.ensures
    (add_byte _ (at + 18) (at + 19) c.print_field-4.ensures (omega arith)) (omega arith))
    (omega arith))
    (omega arith)
