-- `add_parts` meets its contract: each turn adds a part's new bars. Assumes nothing.
use native.Mathlib.Omega.{arith}
use borrow.Author.Rules.{rules}
use Rattle.basket.proofs.Afresh.{no_part, then_part, more_room, all_parts}
use Rattle.basket.proofs.parts.add_parts.Goals as goal

pub loop-at-init : goal.loop-at-init
loop-at-init c = (omega arith, no_part)

pub add_part-at-requires : goal.add_part-at-requires
add_part-at-requires c =
    (more_room c.loop-at.invariant.1 c.requires, c.loop-at-test.true)

pub loop-at-smaller : goal.loop-at-smaller
loop-at-smaller c = let r = c.add_part-at.ensures.1 in
    let s = c.add_part-at.ensures.2 in
    search rules

pub loop-at-preserved : goal.loop-at-preserved
loop-at-preserved c =
    let r = c.add_part-at.ensures.1 in
    (c.add_part-at.ensures.2, then_part c.loop-at.invariant.1 c.add_part-at.ensures.0 (omega arith))

pub returns : goal.returns
returns c =
    all_parts c.loop-at.invariant.1 (omega arith)
