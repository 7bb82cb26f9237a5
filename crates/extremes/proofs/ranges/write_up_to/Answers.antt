-- `write_up_to` meets its contract: each turn joins the bar before to those up to e. Assumes nothing.
use Prim.Native.Nat.{◌-◌}
use native.Mathlib.Omega.{arith}
use Rattle.extremes.proofs.Range.{one_bar_lem, joins}
use Rattle.extremes.proofs.Part.{one_below}
use Rattle.extremes.proofs.ranges.write_up_to.Goals as goal

pub loop-i-preserved : goal.loop-i-preserved
loop-i-preserved c =
    let i = c.loop-i.i - 1 in
    let on = joins c.requires.numbers (one_bar_lem _ c.of_one.ensures) c.loop-i.invariant.1 c.join-best.ensures
    (omega arith) in
    (omega arith, on, one_below i c.join-best.result c.loop-i.invariant.2 on (omega arith))
