-- `print_answer` meets its contract: the positions follow the first
-- line, and the place after them is counted. Assumes nothing.
use mathlib.Core.Path.{refl, ap}
use Prim.Native.Nat.{ℕ, ◌+◌, ◌*◌, ◌≤◌}
use native.Mathlib.Omega.{arith}
use lib.ListN.{length}
use lib.Seq.{length-take-le}
use Rattle.sheet_lines.proofs.Printing.{add_more}
use Rattle.sheet_lines.proofs.Positions.{first_positions}
use Rattle.sheet_lines.specs.Printed.{head_bytes, position_bytes, answer_text}
use Rattle.sheet_lines.proofs.text.print_answer.Goals as goal

pub print_positions-requires : goal.print_positions-requires
print_positions-requires c =
    let all : c.count_of-count.result ≤ length c.args.cells.now =
    omega (arith, c.requires.0, c.count_of-count.ensures) in
    rw (length-take-le c.count_of-count.result c.args.cells.now all)
    (omega (arith, c.requires, c.count_of-count.ensures, c.print_head.ensures.long))

pub returns : goal.returns
unfolding answer_text
returns c =
    let count = c.count_of-count.result in
    let cells = c.args.cells.now in
    let all : count ≤ length cells = omega (arith, c.requires.0, c.count_of-count.ensures) in
    let long = length-take-le count cells all in
    let printed = rw (first_positions count cells all, long) at c.print_positions.ensures in (
      rw (← c.count_of-count.ensures, ← c.refusal_of.ensures)
          (add_more c.print_head.ensures printed refl),
      ap (λ (k : ℕ). c.args.at + head_bytes + position_bytes * k) c.count_of-count.ensures,
    )
