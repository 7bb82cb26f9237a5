-- `answer_contracts` meets its contract: each turn takes one contract, and the first refusal ends it. Assumes nothing.
use Prim.Native.Nat.{◌*◌, ◌≤◌}
use lib.ListN.{length}
use Rattle.std.specs.Prelude.{Ok}
use Rattle.basket.specs.Basket.{rows, contract_at, contracts_of, each_answered}
use Rattle.basket.proofs.Answers.{Onward}
use Rattle.basket.proofs.table.answer_contracts.Given as goal

abbrev pub invariant-loop-k : goal.invariant-loop-k
invariant-loop-k l =
    (l.k ≤ length l.weights)
    × Onward (contract_at l.bars l.series l.contracts l.weights) (length l.weights) (Ok (rows * l.bars)) l.k
    (each_answered (contracts_of l.bars l.series l.contracts l.weights) (Ok (rows * l.bars)))
