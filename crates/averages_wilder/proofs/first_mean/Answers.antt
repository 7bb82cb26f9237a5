-- `first_mean` meets its contract: the loop sums the first n cells. Assumes nothing.
use Prim.Native.Nat.{◌<◌}
use native.Mathlib.Nat.{zero-add}
use native.Mathlib.Omega.{arith}
use lib.Ieee.{Float, nan, of_bits}
use lib.ListN.{length-take}
use lib.Seq.{get_or-take}
use Rattle.windows.proofs.Window.{none_summed}
use Rattle.averages_wilder.proofs.Stages.{summed, seed_of}
use Rattle.averages_wilder.proofs.first_mean.Goals as goal

pub loop-x-init : goal.loop-x-init
loop-x-init c = unfold of_bits in none_summed

pub loop-x-preserved : goal.loop-x-preserved
loop-x-preserved c =
    let a = c.args in
    let k = c.loop-x.x-index in
    let inside : k < a.n = omega (arith, length-take {A = Float}) in
    summed c.loop-x.invariant (rw zero-add (get_or-take a.n a.series.now k nan inside))

pub returns : goal.returns
returns c = seed_of _ _ _ c.loop-x.invariant (omega (arith, length-take {A = Float}))
