-- `add_parts` meets its contract: each turn adds a part's new bars. Assumes nothing.
use Prim.Native.Nat.{◌-◌, ◌≤◌}
use lib.ListN.{length}
use Rattle.basket.specs.inner.Parts.{PartAdded}
use Rattle.basket.proofs.parts.add_parts.Given as goal

abbrev pub invariant-loop-at : goal.invariant-loop-at
invariant-loop-at l =
    (l.at ≤ length l.contract.prices.now)
    × PartAdded l.contract.prices.now l.contract.rule l.contract.n l.contract.weight l.contract.row 0 l.at l.initial.out
    l.out l.initial.block l.block l.initial.work l.work

abbrev pub decreases-loop-at : goal.decreases-loop-at
decreases-loop-at l = length l.contract.prices.now - l.at
