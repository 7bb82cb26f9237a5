-- `largest` meets its contract: each turn takes the larger of two magnitudes. Assumes nothing.
use mathlib.Core.Path.{◌≡◌, ◌∙◌, ap, refl}
use native.Mathlib.Omega.{arith}
use lib.ListN.{length}
use lib.Ieee.{of_bits}
use Rattle.cells.proofs.Recur.{no_step, one_step}
use Rattle.extremes.specs.Extreme.{larger}
use Rattle.margins.specs.inner.Margin.{largest_of}
use Rattle.margins.proofs.largest.Goals as goal

pub loop-price-init : goal.loop-price-init
unfolding of_bits
loop-price-init c = no_step refl

pub loop-price-preserved : goal.loop-price-preserved
loop-price-preserved c =
    one_step c.loop-price.invariant (c.larger_of-most.ensures ∙ ap (larger _) c.magnitude.ensures)

pub returns : goal.returns
unfolding largest_of
returns c =
    let end : c.loop-price.price-index ≡ length c.args.series.now = omega arith in
    rw (← end) c.loop-price.invariant.is
