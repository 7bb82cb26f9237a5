-- `move_position` meets its contract: the sign of the position decides what the bar may change. Assumes nothing.
use mathlib.Core.Path.{◌≡◌, sym, ◌∙◌}
use mir.Syntax.{w32}
use mir.Val.{to_z, of_z}
use mir.ValLaws.{to_z-of_z}
use Rattle.rules_held.proofs.Holding.{moved_long, moved_short, moved_flat}
use Rattle.rules_held.proofs.move_position.Goals as goal
use Rattle.rules_held.proofs.move_position.Goals.{Start}

-- the position as it is read from its bits
same : (c : Start) → to_z w32 (of_z w32 c.args.position) ≡ c.args.position
same c = to_z-of_z w32 c.args.position c.ranges.position

pub returns-then-closes_long : goal.returns-then-closes_long
returns-then-closes_long c =
    sym (moved_long c.args.position _ (rw (same c.before.before) at c.if-position-gt0.true) ∙ rw c.if-closes_long.true)

pub returns-else-closes_long : goal.returns-else-closes_long
returns-else-closes_long c =
    rw (same c.before.before)
    (sym (moved_long c.args.position _ (rw (same c.before.before) at c.if-position-gt0.true)
    ∙ rw c.if-closes_long.false))

pub returns-then-closes_short : goal.returns-then-closes_short
returns-then-closes_short c =
    sym (moved_short c.args.position _ (rw (same c.before.before.before) at c.if-position-lt0.true)
    ∙ rw c.if-closes_short.true)

pub returns-else-closes_short : goal.returns-else-closes_short
returns-else-closes_short c =
    rw (same c.before.before.before)
    (sym (moved_short c.args.position _ (rw (same c.before.before.before) at c.if-position-lt0.true)
    ∙ rw c.if-closes_short.false))

pub returns-else-position-lt0 : goal.returns-else-position-lt0
returns-else-position-lt0 c =
    let z = c.args.position in
    to_z-of_z w32 c.args.opens c.ranges.opens
    ∙ sym (moved_flat z _ (rw (same c.before.before) at c.if-position-gt0.false)
    (rw (same c.before.before) at c.if-position-lt0.false))
