-- `slide_ticks` meets its contract: each turn takes a tick in, writes the mean, and lets the oldest tick go. Assumes
-- nothing.
use Prim.Native.Nat.{◌+◌, ◌-◌}
use native.Mathlib.Omega.{arith}
use borrow.Author.Rules.{sfits_of}
use lib.IntN.{◌+ℤ◌, ◌-ℤ◌}
use lib.Ieee.{to_signed}
use mir.Syntax.{w64}
use mir.Val.{to_z}
use mir.ValLaws.{to_z-of_z}
use Rattle.cells.specs.Line.{line}
use Rattle.cells.proofs.Written.{one_more}
use Rattle.averages_ticks.proofs.Whole.{held}
use Rattle.averages_ticks.proofs.Ticks.{HeldSum, castable_at, sum_small, hold_in, hold_out, tick_cell}
use Rattle.averages_ticks.proofs.slide_ticks.Goals as goal
use Rattle.averages_ticks.proofs.slide_ticks.Goals.{After-row_known-1, After-row_known-in-loop-i-1}

-- the sum of the window that ends at bar i
window : (c : After-row_known-1)
    → let a = c.args in
    HeldSum a.series.now (c.loop-i.i + 1 - a.n) a.n
    (to_z w64 c.loop-i.rest-bits +ℤ held (to_signed 63 (line a.series.now c.loop-i.i)))
window c =
    hold_in c.requires.ticks c.loop-i.i c.loop-i.invariant.1 (omega arith)

-- and of those that stay in the next one
rest : (c : After-row_known-in-loop-i-1)
    → let a = c.args in
    let s = a.series.now in
    HeldSum s (c.loop-i.i + 1 + 1 - a.n) (a.n - 1)
    (held (to_z w64 c.loop-i.rest-bits +ℤ held (to_signed 63 (line s c.loop-i.i))) -ℤ held
    (to_signed 63 (line s (c.loop-i.i + 1 - a.n))))
rest c =
    let a = c.args in
    let s = a.series.now in
    let window_held : HeldSum s (c.loop-i.i + 1 - a.n) a.n
    (to_z w64 c.loop-i.rest-bits +ℤ held (to_signed 63 (line s c.loop-i.i))) =
    hold_in c.requires.ticks c.loop-i.i c.loop-i.invariant.1 (omega arith) in
    hold_out c.requires.ticks window_held.sum (omega arith)

pub float_to_int-sum : goal.float_to_int-sum
float_to_int-sum c = castable_at _ c.requires.ticks (omega arith)

pub overflow_add-sum : goal.overflow_add-sum
overflow_add-sum c = (window c).fits

pub to_tick-requires : goal.to_tick-requires
to_tick-requires c =
    let pre = c.requires in
    record { window = pre.window; small = sum_small pre.ticks (window c).sum; is = c.share_of-share.ensures }

pub float_to_int-rest : goal.float_to_int-rest
float_to_int-rest c =
    castable_at _ c.requires.ticks
    (omega arith)

pub overflow_sub-rest-in-loop-i : goal.overflow_sub-rest-in-loop-i
overflow_sub-rest-in-loop-i c = (rest c).fits

pub loop-i-preserved : goal.loop-i-preserved
loop-i-preserved c =
    let call = c.to_tick in
    let cell = to_z-of_z w64 call.result (sfits_of call.type_inv) in
    let mean = tick_cell c.args.n c.loop-i.i (window (goal.at.loop-i-preserved c).After-row_known-1).sum
    (omega arith) in
    (one_more c.loop-i.invariant.0 (rw (cell, call.ensures) mean) (omega arith), (rest c).sum)
