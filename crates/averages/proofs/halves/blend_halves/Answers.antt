-- `blend_halves` meets its contract: each turn writes eight cells of either half, from the one before them there; the
-- last bars follow. Assumes nothing.
use native.Mathlib.Omega.{arith}
use Rattle.averages.proofs.Blending.{seeded, at_bar}
use Rattle.averages.proofs.WrittenParts.{one_part}
use Rattle.averages.proofs.Sides.{sides_on, sides_end}
use Rattle.averages.proofs.halves.blend_halves.Goals as goal

pub loop-k-init : goal.loop-k-init
loop-k-init c =
    let pre = c.requires in
    record {
      parts = one_part _ _ _ pre.0.cells (omega arith);
      lower = at_bar seeded (omega arith);
      upper = at_bar pre.1 (omega arith);
    }

pub loop-k-preserved : goal.loop-k-preserved
loop-k-preserved c =
    sides_on 8 _ _ c.loop-k.invariant c.blend_both-last.ensures (omega arith)

pub returns : goal.returns
returns c = sides_end _ c.loop-k.invariant c.blend_rest.ensures (omega arith)
