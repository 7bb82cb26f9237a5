-- `many_more` meets its contract: they fit, or fill the count, or it is full. Assumes nothing.
use mathlib.Core.Path.{sym}
use native.Mathlib.Omega.{arith}
use Rattle.sheet_requests.proofs.Counting.{more_fits, more_full, more_fill}
use Rattle.sheet_requests.proofs.many_more.Goals as goal

pub returns-then-more-count : goal.returns-then-more-count
returns-then-more-count c =
    let a = c.args in
    sym (more_fits a.more a.count (omega (arith, c.if-more-count.true, c.if-count-lt-MOST_COUNT.true)))

pub returns-else-more-count : goal.returns-else-more-count
returns-else-more-count c =
    let a = c.args in
    sym (more_fill a.more a.count (omega arith) (omega (arith, c.if-more-count.false, c.if-count-lt-MOST_COUNT.true)))

pub returns-else-count-lt-MOST_COUNT : goal.returns-else-count-lt-MOST_COUNT
returns-else-count-lt-MOST_COUNT c =
    let a = c.args in
    sym (more_full a.more a.count (omega (arith, c.if-count-lt-MOST_COUNT.false)))
