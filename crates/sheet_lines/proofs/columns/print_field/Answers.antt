-- `print_field` meets its contract: the last digit follows those that lead it. Assumes nothing.
use Prim.Native.Nat.{◌+◌, ◌-◌}
use native.Mathlib.Omega.{arith}
use Rattle.sheet_lines.proofs.Printing.{add_byte, field_is}
use Rattle.sheet_lines.proofs.columns.print_field.Goals as goal

pub returns : goal.returns
returns c =
    let a = c.args in
    rw (field_is a.width a.n (a.at + a.width - 1 - a.at) (omega arith))
    (add_byte _ _ _ c.print_leading.ensures (omega arith))
