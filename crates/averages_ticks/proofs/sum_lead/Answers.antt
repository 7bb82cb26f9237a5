-- `sum_lead` meets its contract: each turn adds a tick, which an i64 holds, and writes a 0. Assumes nothing.
use mathlib.Core.Path.{refl}
use Prim.Native.Nat.{◌+◌}
use native.Mathlib.Omega.{arith}
use lib.IntN.{◌+ℤ◌}
use lib.Ieee.{to_signed}
use mir.Syntax.{w64}
use mir.Val.{to_z}
use Rattle.cells.specs.Line.{line}
use Rattle.cells.proofs.Written.{none_written, one_more}
use Rattle.averages_ticks.proofs.Whole.{held}
use Rattle.averages_ticks.proofs.Ticks.{HeldSum, castable_at, no_ticks, hold_in}
use Rattle.averages_ticks.proofs.sum_lead.Goals as goal
use Rattle.averages_ticks.proofs.sum_lead.Goals.{After-row_known-1}

-- the sum with one tick more
next : (c : After-row_known-1)
    → let at = c.loop-i in
    let s = c.args.series.now in
    HeldSum s 0 (at.i + 1) (to_z w64 at.sum-bits +ℤ held (to_signed 63 (line s at.i)))
next c =
    let at = c.loop-i in
    hold_in c.requires.ticks at.i at.invariant.1 (omega arith)

pub loop-i-init : goal.loop-i-init
loop-i-init c = (none_written, no_ticks 0)

pub float_to_int-sum : goal.float_to_int-sum
float_to_int-sum c = castable_at _ c.requires.ticks (omega arith)

pub overflow_add-sum : goal.overflow_add-sum
overflow_add-sum c = (next c).fits

pub loop-i-preserved : goal.loop-i-preserved
loop-i-preserved c = (one_more c.loop-i.invariant.0 refl (omega arith), (next c).sum)
