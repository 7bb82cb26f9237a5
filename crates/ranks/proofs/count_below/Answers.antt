-- `count_below` meets its contract: the cells of the part are counted by the test. Assumes nothing.
use borrow.Author.Rules.{rules}
use Rattle.ranks.proofs.Counted.{counted_part}
use Rattle.ranks.proofs.count_below.Goals as goal

pub returns : goal.returns
returns c =
    counted_part c.args.cells.now c.args.from c.args.count
    (c.count_passing.ensures _ (record { as_test = λ x r e. search rules })) c.requires
