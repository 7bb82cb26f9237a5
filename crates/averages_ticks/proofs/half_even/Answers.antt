-- `half_even` meets its contract: a half up that is a tie goes down to the even one. Assumes nothing.
use mathlib.Core.Path.{sym}
use native.Mathlib.Omega.{arith}
use Rattle.averages_ticks.proofs.Even.{tied, untied}
use Rattle.averages_ticks.proofs.half_even.Goals as goal

pub returns-then-up-n : goal.returns-then-up-n
returns-then-up-n c =
    let up = c.half_up-up.ensures in
    rw up (sym (tied _ _ c.requires.window.some (omega (arith, rw up at c.if-up-n.true))))

pub returns-else-up-n : goal.returns-else-up-n
returns-else-up-n c =
    let up = c.half_up-up.ensures in
    rw up (sym (untied _ _ c.requires.window.some (rw up at c.if-up-n.false)))
