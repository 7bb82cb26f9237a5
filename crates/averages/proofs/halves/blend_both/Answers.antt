-- `blend_both` meets its contract: each turn writes a cell of either part, from the one before it there. Assumes
-- nothing.
use mathlib.Core.Path.{refl}
use Rattle.cells.proofs.Recur.{no_step, one_step}
use Rattle.averages.proofs.halves.blend_both.Goals as goal

pub loop-k-init : goal.loop-k-init
loop-k-init c = (no_step refl, no_step refl, no_step refl)

pub loop-k-preserved : goal.loop-k-preserved
loop-k-preserved c =
    let inv = c.loop-k.invariant in
    let lower = one_step inv.0 c.blended-lower.ensures in
    let upper = one_step inv.1 c.blended-upper.ensures in
    (lower, upper, one_step inv.2 (rw (lower.is, upper.is)))
