-- `in_order` meets its contract: each turn looks at one bar. Assumes nothing.
use Rattle.std.proofs.Common.{refl, add-one}
use Rattle.cells.specs.Search.{every_bar}
use Rattle.calls.specs.Answer.{in_order}
use Rattle.checks.proofs.in_order.Goals as goal

pub loop-i-init : goal.loop-i-init
unfolding in_order every_bar
loop-i-init c = refl

pub loop-i-preserved : goal.loop-i-preserved
unfolding in_order every_bar
loop-i-preserved c = rw (add-one, c.loop-i.invariant)
