-- `blend_rest` meets its contract: each turn writes a cell, from the one before it. Assumes nothing.
use mathlib.Core.Path.{◌≡◌, refl}
use Prim.Native.Nat.{◌+◌, ◌-◌}
use native.Mathlib.Omega.{arith}
use Rattle.cells.proofs.Recur.{no_step, one_step}
use Rattle.averages.proofs.halves.blend_rest.Goals as goal

pub loop-i-init : goal.loop-i-init
loop-i-init c =
    let a = c.args in
    let none : a.from - a.from ≡ 0 = omega arith in
    rw none (no_step refl, no_step refl)

pub loop-i-preserved : goal.loop-i-preserved
loop-i-preserved c =
    let a = c.args in
    let i = c.loop-i.i in
    let inv = c.loop-i.invariant in
    let next : i + 1 - a.from ≡ i - a.from + 1 = omega arith in
    let bar : a.from + (i - a.from) ≡ i = omega arith in
    let cell = one_step inv.0 (rw bar c.blended-cell.ensures) in
    rw next (cell, one_step inv.1 (rw (bar, cell.is)))
