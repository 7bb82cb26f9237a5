-- `blend_more` meets its contract: each turn blends one price. Assumes nothing.
use mathlib.Core.Path.{◌≡◌, ◌∙◌, refl}
use Prim.Native.Nat.{◌+◌, ◌-◌, ◌<◌}
use native.Mathlib.Omega.{arith}
use lib.Ieee.{Float, nan}
use lib.ListN.{get_or, length-take, take, drop}
use lib.Seq.{get_or-take, get_or-drop}
use Rattle.cells.proofs.Recur.{no_step, one_step}
use Rattle.averages.proofs.blend.blend_more.Goals as goal

pub loop-price-init : goal.loop-price-init
loop-price-init c = no_step refl

pub loop-price-preserved : goal.loop-price-preserved
loop-price-preserved c =
    let a = c.args in
    let s = a.series.now in
    let k = c.loop-price.price-index in
    let m = a.at + a.count - a.at in
    let inside : k < m = omega (arith, length-take {A = Float}) in
    let price : get_or (take m (drop a.at s)) k nan ≡ get_or s (a.at + k) nan =
    get_or-take m (drop a.at s) k nan inside ∙ get_or-drop a.at s k nan in
    one_step c.loop-price.invariant (rw price at c.blended-cell.ensures)
