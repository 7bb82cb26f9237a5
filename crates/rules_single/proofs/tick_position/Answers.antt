-- `tick_position` meets its contract: whole numbers decide, and at a tie the rounded average. Assumes nothing.
use mathlib.Core.Path.{sym, ◌∙◌}
use native.Mathlib.Omega.{arith}
use lib.Ieee.{of_bits, neg}
use Rattle.rules_single.proofs.Ticks.{by_average, by_total}
use Rattle.rules_single.proofs.tick_position.Goals as goal

pub returns-then-is_tie : goal.returns-then-is_tie
returns-then-is_tie c =
    let pre = c.requires in
    c.against_mean.ensures ∙ rw c.mean_at.ensures
    (by_average pre.tick_rows c.shared_slice_known-1.given _ (omega arith) (omega arith))

pub returns-then-scaled-total : goal.returns-then-scaled-total
unfolding of_bits neg
returns-then-scaled-total c =
    let pre = c.requires in
    let none = sym c.is_tie.ensures ∙ c.if-is_tie.false in
    sym (by_total pre.tick_rows c.shared_slice_known-1.given _ (omega arith) (omega arith) none
    ∙ rw c.if-scaled-total.true)

pub returns-else-scaled-total : goal.returns-else-scaled-total
unfolding of_bits
returns-else-scaled-total c =
    let pre = c.requires in
    let none = sym c.is_tie.ensures ∙ c.if-is_tie.false in
    sym (by_total pre.tick_rows c.shared_slice_known-1.given _ (omega arith) (omega arith) none
    ∙ rw c.if-scaled-total.false)
