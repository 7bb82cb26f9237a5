-- `join_from` meets its contract: each turn joins one bar more to the bars from e on, and these to the window's
-- others. Assumes nothing.
use native.Mathlib.Omega.{arith}
use Rattle.extremes.proofs.Range.{one_bar_lem, spans, joins, meets, whole}
use Rattle.extremes.proofs.Part.{one_stands, not_yet, one_above}
use Rattle.extremes.proofs.blocks.join_from.Goals as goal

pub loop-i-init : goal.loop-i-init
loop-i-init c =
    let first = c.requires.replacing.inside c.args.e (omega arith) in (
      omega arith,
      spans (one_bar_lem _ c.of_one-best.ensures) (omega arith),
      one_stands _ (whole _ first (omega arith))
          (omega arith),
    )

pub loop-i-preserved : goal.loop-i-preserved
loop-i-preserved c =
    let pre = c.requires in
    let i = c.loop-i.i in
    let on = joins pre.windows_over.numbers c.loop-i.invariant.1 (one_bar_lem i c.of_one.ensures) c.join-best.ensures
    (omega arith) in
    let up_to_lem = not_yet i pre.replacing c.loop-i.invariant.2 (omega arith) in
    let window = meets pre.windows_over.numbers up_to_lem on c.join-whole.ensures (omega arith) in (
      omega arith,
      spans on (omega arith),
      one_above i _ c.loop-i.invariant.2 (whole _ window (omega arith))
          (omega arith),
    )
