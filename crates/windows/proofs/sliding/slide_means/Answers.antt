-- `slide_means` meets its contract: each turn moves the sum on by two bars and writes their means; then at most one
-- bar is left. Assumes nothing.
use Prim.Native.Nat.{◌+◌}
use native.Mathlib.Omega.{arith}
use Rattle.cells.proofs.Written.{one_more, step, ends}
use Rattle.windows.proofs.Window.{first_running, next_running, same_bar}
use Rattle.windows.proofs.Means.{none_on, mean_on}
use Rattle.windows.proofs.sliding.slide_means.Goals as goal

pub loop-i-init : goal.loop-i-init
loop-i-init c = (omega arith, omega arith, none_on _ _ _, first_running _ c.requires.is (omega arith))

pub loop-i-preserved : goal.loop-i-preserved
loop-i-preserved c =
    let at = c.loop-i in
    let half = next_running at.invariant.3 (omega arith) in
    let next = next_running half (omega arith) in
    let one = one_more at.invariant.2 (mean_on _ _ half (omega arith)) (omega arith) in (
      omega arith,
      omega arith,
      step (at.i + 1) (at.i + 2) one (mean_on _ _ next (omega arith)) (omega arith),
      same_bar next (omega arith),
    )

pub returns-then-i-series : goal.returns-then-i-series
returns-then-i-series c =
    let at = c.loop-i in
    let next = next_running at.invariant.3 (omega arith) in
    ends (one_more at.invariant.2 (mean_on _ _ next (omega arith)) (omega arith)) (omega arith)
