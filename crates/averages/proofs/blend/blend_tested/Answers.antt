-- `blend_tested` meets its contract: the loop blends the first half, and tests both. Assumes nothing.
use Rattle.std.proofs.Common.{length, refl, ◌∙◌, arith, rules}
use Rattle.values.proofs.Part.{all_passing, told}
use Rattle.averages.proofs.Blending.{seeded, more_blended, at_bar}
use Rattle.averages.proofs.TwoParts.{first_part, parts_on, parts_end}
use Rattle.averages.proofs.blend.blend_tested.Goals as goal

pub loop-k-init : goal.loop-k-init
loop-k-init c =
    (first_part _ _ (told (search rules) c.requires.accept) (omega arith), at_bar seeded (omega arith))

pub loop-k-preserved : goal.loop-k-preserved
loop-k-preserved c =
    let inv = c.loop-k.invariant in (
      parts_on _ _ inv.0 c.range_accepted-accept.ensures c.range_accepted-accept-in-loop-k.ensures (omega arith),
      more_blended 8 _ inv.1 c.blend_more-last.ensures (omega arith),
    )

pub returns : goal.returns
returns c =
    let inv = c.loop-k.invariant in
    let s = c.args.series.now in
    record {
      middle = rw (c.tested.ensures.0, ← c.value_of-last.ensures) (at_bar inv.1 (omega arith));
      accept = c.tested.ensures.1
          ∙ all_passing s (parts_end (length s) inv.0 c.range_accepted-accept-2.ensures (omega arith)) refl;
    }
