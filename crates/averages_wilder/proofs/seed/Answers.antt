-- `seed` meets its contract: the loop sums the gains and the losses of the bars 1 to n. Assumes nothing.
use mathlib.Core.Path.{◌≡◌}
use Prim.Native.Nat.{◌+◌, ◌-◌}
use native.Mathlib.Omega.{arith}
use lib.Ieee.{of_bits}
use Rattle.windows.proofs.Window.{none_summed}
use Rattle.changes.proofs.Bars.{gain_is, loss_is}
use Rattle.averages_wilder.proofs.Stages.{summed, seed_of}
use Rattle.averages_wilder.proofs.seed.Goals as goal

pub loop-i-init : goal.loop-i-init
loop-i-init c = unfold of_bits in (none_summed, none_summed)

pub loop-i-preserved : goal.loop-i-preserved
loop-i-preserved c =
    let at = c.loop-i in
    let next : at.i + 1 - 1 ≡ at.i - 1 + 1 = omega arith in
    let bar : 1 + (at.i - 1) ≡ at.i = omega arith in
    rw next (
      summed at.invariant.0 (rw bar (gain_is _ _ c.change_at-change.ensures c.gain_of-gain.ensures)),
      summed at.invariant.1 (rw bar (loss_is _ _ c.change_at-change.ensures c.loss_of-loss.ensures)),
    )

pub returns : goal.returns
returns c =
    let inv = c.loop-i.invariant in
    record { gain = seed_of _ _ _ inv.0 (omega arith); loss = seed_of _ _ _ inv.1 (omega arith) }
