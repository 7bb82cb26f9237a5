-- `ultimate_channel` meets its contract: the answer is the table's, and where it has cells they are written and the
-- work slice is cleared. Assumes nothing.
use Prim.Native.Nat.{min, ◌*◌, ◌≤◌}
use native.Mathlib.Omega.{arith}
use lib.ListN.{length}
use borrow.Author.Rules.{rules}
use Rattle.cells.proofs.Touched.{untouched}
use Rattle.checks.proofs.Due.{some_due}
use Rattle.outer_lines.proofs.Calls.{written_band_call, empty_band_call}
use Rattle.channel.specs.inner.ChannelRoom.{ChannelRoom}
use Rattle.channel.proofs.Stages.{channel_clearable, channel_bars, channel_ready}
use Rattle.channel.proofs.ultimate_channel.Goals as goal
use Rattle.channel.proofs.ultimate_channel.Goals.{Then-cells_due}

-- where cells are due
opened : (c : Then-cells_due) →
    let a = c.args in
    ChannelRoom a.period a.first a.high.now a.low.now a.close.now
    (min (length a.middle.now) (min (length a.upper.now) (length a.lower.now)))
    × (8 * length a.high.now ≤ length c.cells_due.new.work)
opened c =
    let some = some_due (rw c.if-cells_due.true at c.cells_due.ensures) in
    let ready = channel_ready _ _ _ _ _ _ _ _ _ _ c.answer_channel-due.ensures some in
    (ready.0, rw c.cells_due.ensures.long ready.1)

pub cells_due-requires : goal.cells_due-requires
cells_due-requires c = channel_clearable _ _ _ _ _ _ _ _ _ _ c.answer_channel-due.ensures

pub write_channel-requires : goal.write_channel-requires
write_channel-requires c = (opened (goal.at.write_channel-requires c).Then-cells_due).0

pub overflow_mul-high : goal.overflow_mul-high
overflow_mul-high c = let o = (opened (goal.at.overflow_mul-high c).Then-cells_due).1 in search rules

pub clear-requires : goal.clear-requires
clear-requires c = (opened (goal.at.clear-requires c).Then-cells_due).1

pub returns-then-cells_due : goal.returns-then-cells_due
returns-then-cells_due c =
    written_band_call c.answer_channel-due.ensures (channel_bars _ _ _ _ _ _ _ _ _ _)
    (rw c.if-cells_due.true at c.cells_due.ensures) c.write_channel.ensures (untouched {k = 0})
    (omega arith) c.clear.ensures

pub returns-else-cells_due : goal.returns-else-cells_due
returns-else-cells_due c = empty_band_call c.answer_channel-due.ensures (rw c.if-cells_due.false at c.cells_due.ensures)
