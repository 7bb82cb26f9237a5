-- `other_taken` meets its contract: each turn passes a bar that is not looked for. Assumes nothing.
use lib.ListN.{length}
use native.Mathlib.Omega.{arith}
use borrow.Author.Count.{below_more}
use lib.Ieee.{ne}
use Rattle.cells.proofs.Search.{first_bar_found, first_bar_none}
use Rattle.jurik.proofs.TwoPasses.{one_differs, none_differs}
use Rattle.jurik.proofs.bar.other_taken.Goals as goal

pub returns-then-takes-cells : goal.returns-then-takes-cells
unfolding ne
returns-then-takes-cells c =
    one_differs
    (first_bar_found _ _ _ c.loop-i.invariant (rw c.takes.ensures at c.if-takes-cells.true) (omega arith))
    (omega arith)

pub loop-i-preserved : goal.loop-i-preserved
unfolding ne
loop-i-preserved c = below_more _ _ c.loop-i.invariant (rw c.takes.ensures at c.if-takes-cells.false)

pub returns : goal.returns
returns c = none_differs (first_bar_none _ (length c.args.cells.now) (λ j l. c.loop-i.invariant j (omega arith)))
