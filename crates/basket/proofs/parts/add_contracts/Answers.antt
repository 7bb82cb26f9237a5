-- `add_contracts` meets its contract: each turn adds one contract to the nets. Assumes nothing.
use mathlib.Core.Path.{refl, ◌∙◌}
use native.Mathlib.Omega.{arith}
use lib.ListN.{length}
use Rattle.cells.proofs.Touched.{untouched, touched_then}
use Rattle.basket.specs.Basket.{contract_at}
use Rattle.basket.proofs.Netting.{none_netted, next_netted, netted_all, still_opened, next_lent}
use Rattle.basket.proofs.parts.add_contracts.Goals as goal

pub loop-k-init : goal.loop-k-init
loop-k-init c = (none_netted c.requires.1 c.requires.0.sized.out_long, untouched, refl)

pub add_contract-requires : goal.add_contract-requires
add_contract-requires c =
    let inv = c.loop-k.invariant in
    let pre = c.requires in
    let k = c.loop-k.k in
    let h = c.loop-k-test.true in
    (still_opened pre.0 k inv.0 inv.1, h, next_lent pre.0 k inv.0 inv.1 pre.2 inv.2 h)

pub loop-k-preserved : goal.loop-k-preserved
loop-k-preserved c =
    let inv = c.loop-k.invariant in
    let a = c.args in
    let added = c.add_contract.ensures in
    let k = c.loop-k.k in (
      next_netted (contract_at a.bars a.series.now a.contracts.now a.weights.now) inv.0
          added.cells (c.requires.0.each k c.loop-k-test.true).some,
      touched_then inv.1 added.work,
      added.block ∙ inv.2,
    )

pub returns : goal.returns
returns c =
    let inv = c.loop-k.invariant in
    let a = c.args in (
      netted_all (contract_at a.bars a.series.now a.contracts.now a.weights.now)
          {k = c.loop-k.k} {n = length a.weights.now} inv.0 (omega arith)
          c.requires.3,
      inv.1,
    )
