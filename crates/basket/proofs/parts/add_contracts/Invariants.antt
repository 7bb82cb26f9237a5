-- `add_contracts` meets its contract: each turn adds one contract to the nets. Assumes nothing.
use mathlib.Core.Path.{◌≡◌}
use Prim.Native.Nat.{◌*◌}
use lib.ListN.{length}
use Rattle.cells.specs.Shown.{first_cells}
use Rattle.cells.specs.inner.Touched.{Touched}
use Rattle.basket.specs.Basket.{contract_at}
use Rattle.basket.proofs.Netting.{Netted}
use Rattle.basket.proofs.parts.add_contracts.Given as goal

abbrev pub invariant-loop-k : goal.invariant-loop-k
invariant-loop-k l =
    Netted l.bars (first_cells l.k (contract_at l.bars l.series l.contracts l.weights)) l.initial.out l.out
    × Touched (8 * l.bars) l.initial.work l.work
    × (length l.block ≡ length l.initial.block)
