-- `print_cut` meets its contract: what is printed last follows the broken request's line. Assumes nothing.
use native.Mathlib.Omega.{arith}
use Rattle.sheet_lines.proofs.Printing.{add_more}
use Rattle.sheet_requests.proofs.closing.print_cut.Goals as goal

pub returns : goal.returns
returns c =
    rw (← c.after_lines-cut.ensures) (add_more c.print_head.ensures c.print.ensures (omega arith)).text
