-- `write_places` meets its contract: each turn writes one bar's place. Assumes nothing.
use mathlib.Core.Path.{◌∙◌}
use native.Mathlib.Omega.{arith}
use Rattle.cells.proofs.Written.{one_more, stands, then_written, ends}
use Rattle.rules_rank.proofs.RollingCells.{none_placed, placed}
use Rattle.rules_rank.proofs.rolling.write_places.Goals as goal

pub loop-i-init : goal.loop-i-init
loop-i-init c = stands (none_placed _ _ c.fill.ensures (omega arith))

pub loop-i-preserved : goal.loop-i-preserved
loop-i-preserved c =
    let series = c.args.series.now in
    let place = c.place_at.ensures ∙ placed series _ c.loop-i.i c.requires.2 (omega arith) in
    one_more c.loop-i.invariant place (omega arith)

pub returns : goal.returns
returns c = then_written c.fill.ensures (ends c.loop-i.invariant (omega arith)) (omega arith)
