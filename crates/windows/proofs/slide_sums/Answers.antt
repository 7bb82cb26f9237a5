-- `slide_sums` meets its contract: each turn slides the sum and writes it. Assumes nothing.
use native.Mathlib.Omega.{arith}
use Rattle.cells.proofs.Written.{step, one_more}
use Rattle.windows.proofs.Window.{first_running, next_running, same_bar}
use Rattle.windows.proofs.RunningSums.{running_sum_at}
use Rattle.windows.proofs.slide_sums.Goals as goal

pub loop-i-init : goal.loop-i-init
loop-i-init c =
    let first = first_running _ c.sum_at-sum.ensures (omega arith) in (
      step _ _ c.requires.before (running_sum_at _ (same_bar first (omega arith)) (omega arith)) (omega arith),
      first,
    )

pub loop-i-preserved : goal.loop-i-preserved
loop-i-preserved c =
    let inv = c.loop-i.invariant in
    let next = next_running inv.1 (omega arith) in
    (one_more inv.0 (running_sum_at _ next (omega arith)) (omega arith), next)
