-- `first_bar` meets its contract: the average starts n - 1 bars after the first usable mean. Assumes nothing.
use lib.ListN.{length}
use borrow.Author.Rules.{rules}
use Rattle.cells.specs.Line.{line}
use Rattle.rules_ema.proofs.Search.{usable_inside}
use Rattle.rules_ema.proofs.start.first_bar.Goals as goal

pub overflow_add-result : goal.overflow_add-result
overflow_add-result c =
    let a = c.args in
    let inside = usable_inside (length a.means.now) (line a.means.now) in
    search rules
