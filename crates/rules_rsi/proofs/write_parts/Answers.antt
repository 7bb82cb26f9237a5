-- `write_parts` meets its contract: each turn writes the part of a change. Assumes nothing.
use mathlib.Core.Path.{ap, ◌∙◌}
use native.Mathlib.Omega.{arith}
use Rattle.cells.proofs.Written.{one_more, ends}
use Rattle.rules_rsi.proofs.Rows.{none_of_parts, next_part}
use Rattle.rules_rsi.proofs.write_parts.Goals as goal

pub loop-i-init : goal.loop-i-init
loop-i-init g c = λ part p. none_of_parts part c.args.to _

pub loop-i-preserved : goal.loop-i-preserved
loop-i-preserved g c = λ part p.
    let w = c.loop-i.invariant part p in
    let cell = p _ _ c.part.ensures
    ∙ ap part c.change_at.ensures
    ∙ next_part part c.args.to w c.loop-i.i (omega arith) in
    ends (one_more w cell (omega arith)) (omega arith)
