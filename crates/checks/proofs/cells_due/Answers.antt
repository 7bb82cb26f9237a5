-- `cells_due` meets its contract, by the three answers. Assumes nothing.
use Prim.Native.Nat.{◌*◌, ◌≤◌}
use lib.ListN.{length}
use borrow.Author.Rules.{rules}
use Rattle.checks.proofs.Due.{clear_room, yes_due, not_due, refused_due}
use Rattle.checks.proofs.cells_due.Goals as goal

pub returns-in_default : goal.returns-in_default
returns-in_default c = search (rules, refused_due)

pub returns-then-count-gt0 : goal.returns-then-count-gt0
returns-then-count-gt0 c = search (rules, yes_due)

pub overflow_mul-bars : goal.overflow_mul-bars
overflow_mul-bars c =
    let room : 8 * c.args.bars ≤ length c.args.work.now = search
    (rules, clear_room c.args.bars) in
    search rules

pub clear-requires : goal.clear-requires
clear-requires c = search (rules, clear_room c.args.bars)

pub returns : goal.returns
returns c = search (rules, not_due)
