-- `write_later` meets its contract: each turn makes a bar from the bar before it and from the seasonal part one season
-- before it, which the last row of work cells has. Assumes nothing.
use mathlib.Core.Path.{◌≡◌, ◌∙◌}
use Prim.Native.Nat.{◌+◌, ◌-◌}
use native.Mathlib.Omega.{arith}
use lib.Ieee.{of_bits}
use Rattle.holt_winters.proofs.Stages.{next_is, first_is, first_smoothed, one_smoothed}
use Rattle.holt_winters.proofs.write_later.Goals as goal

pub loop-i-init : goal.loop-i-init
unfolding of_bits
loop-i-init c =
    let first = c.requires.average_value in
    (first_is _ _ _ first.0 (omega arith), first_smoothed _ _ _ first.0 first.1)

pub loop-i-preserved : goal.loop-i-preserved
loop-i-preserved c =
    let at = c.loop-i in
    let some = c.requires.season_room.window.some in
    let done = at.invariant.1 in
    let old = c.season_before-old.ensures ∙ done.seasons.row (at.i - c.args.m) (omega arith) in
    let bar = next_is _ _ _ at.i at.invariant.0 old c.next-last.ensures (omega arith) in
    let now : at.i + 1 - 1 ≡ at.i = omega arith in
    let next = one_smoothed _ _ _ done bar c.cell.ensures c.put.ensures (omega arith) in
    (rw now bar, next)
