-- `print_count` meets its contract: the two fields follow each other, and the line feed follows them. Assumes nothing.
use mathlib.Core.Path.{◌∙◌}
use Prim.Native.Nat.{◌+◌}
use native.Mathlib.Omega.{arith}
use lib.ListN.{length-set}
use Rattle.sheet_lines.proofs.Printing.{add_byte, add_more}
use Rattle.sheet_lines.specs.Printed.{count_line}
use Rattle.sheet_lines.proofs.text.print_count.Goals as goal

pub shape_of-text : goal.shape_of-text
shape_of-text c = simp length-set (c.print_field-2.auto.text ∙ c.print_field.auto.text)

pub returns : goal.returns
unfolding count_line
returns c =
    let at = c.args.at in
    add_more c.print_field.ensures
    (add_byte _ (at + 16) (at + 17) c.print_field-2.ensures (omega arith))
    (omega arith)
