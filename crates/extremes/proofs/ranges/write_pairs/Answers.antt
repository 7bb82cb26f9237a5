-- `write_pairs` meets its contract: each turn writes the range of one window. Assumes nothing.
use native.Mathlib.Omega.{arith}
use Rattle.extremes.proofs.Range.{one_bar_lem, pairs, whole}
use Rattle.extremes.proofs.Part.{one_above}
use Rattle.extremes.proofs.ranges.write_pairs.Goals as goal

pub loop-i-preserved : goal.loop-i-preserved
loop-i-preserved c =
    let given = c.requires.1.given in
    let i = c.loop-i.i in
    let window = pairs given.numbers (one_bar_lem _ c.of_one.ensures) (one_bar_lem i c.of_one-in-loop-i.ensures)
    c.join-whole.ensures (omega arith) in
    (omega arith, one_above i _ c.loop-i.invariant.1 (whole _ window (omega arith)) (omega arith))
