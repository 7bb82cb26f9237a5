-- `write_some_positions` meets its contract: each turn reads a bar's mean, middle and variance, makes the
-- position of the one before it, and writes that. Assumes nothing.
use mathlib.Core.Path.{◌∙◌}
use native.Mathlib.Nat.{add-zero}
use Prim.Native.Nat.{◌+◌}
use native.Mathlib.Omega.{arith}
use borrow.Author.Rules.{sfits_of}
use lib.Ieee.{nan}
use mir.Syntax.{w32}
use mir.ValLaws.{to_z-of_z}
use Rattle.cells.proofs.Written.{step, read_back}
use Rattle.rules_bands.proofs.Stages.{step_at, recurring_before, recurring_on}
use Rattle.rules_bands.proofs.write_some_positions.Goals as goal

pub loop-j-init : goal.loop-j-init
loop-j-init c =
    let call = c.position_before-position in
    let pre = c.requires in
    let is = to_z-of_z w32 call.result (sfits_of call.type_inv) ∙ call.ensures in (
      rw add-zero pre.cells,
      rw (add-zero, is) (recurring_before _ _ _ _ c.args.i pre.cells (omega arith)),
    )

pub loop-j-preserved : goal.loop-j-preserved
loop-j-preserved c =
    let a = c.args in
    let j = c.loop-j.j in
    let few = rw c.divisor-d.ensures at c.write_spreads-count.ensures in
    let middle = read_back j nan few.middles (omega arith) in
    let variance = read_back j nan few.variances (omega arith) in
    let call = c.position_after-position in
    let is = to_z-of_z w32 call.result (sfits_of call.type_inv) ∙ call.ensures
    ∙ step_at a.reverse a.n a.k _ (a.i + j) _ middle variance (omega arith) in
    let next = recurring_on _ _ _ _ a.i j c.loop-j.invariant.1 is in
    (step (a.i + j) (a.i + (j + 1)) c.loop-j.invariant.0 next.1 (omega arith), next.0)
