-- `add_contract` meets its contract: the contract's numbers and its part of the series. Assumes nothing.
use mathlib.Core.Path.{◌≡◌}
use Prim.Native.Nat.{◌+◌, ◌-◌, ◌*◌, ◌<◌, ◌≤◌}
use native.Mathlib.Omega.{arith}
use borrow.Author.Rules.{rules}
use lib.ListN.{length, get_or}
use lib.IntN.{pos}
use mir.Syntax.{w64}
use mir.Val.{to_z, of_z}
use Rattle.basket.specs.Basket.{contract_at}
use Rattle.basket.proofs.Answers.{part_inside, part_long, contract_is}
use Rattle.basket.proofs.Weights.{weight_held}
use Rattle.basket.proofs.parts.add_contract.Goals as goal
use Rattle.basket.proofs.parts.add_contract.Goals.{Start}

inside : (c : Start) → c.args.k * c.args.bars + c.args.bars ≤ length c.args.series.now
inside c = part_inside c.args.k c.requires.0.sized c.requires.1

-- contract k's numbers are in the table
numbers : (c : Start) → 5 * c.args.k + 4 < length c.args.contracts.now
numbers c = let five = c.requires.0.sized.shape.five in let some = c.requires.1 in omega arith

pub overflow_mul-from : goal.overflow_mul-from
overflow_mul-from c = let i = inside (goal.at.overflow_mul-from c).Start in search rules

pub overflow_add-to : goal.overflow_add-to
overflow_add-to c = let i = inside (goal.at.overflow_add-to c).Start in search rules

pub overflow_mul-at : goal.overflow_mul-at
overflow_mul-at c = let i = numbers (goal.at.overflow_mul-at c).Start in search rules

pub offset_bounds-series-from : goal.offset_bounds-series-from
offset_bounds-series-from c = let i = inside (goal.at.offset_bounds-series-from c).Start in search rules

pub slice_bounds-contract-count : goal.slice_bounds-contract-count
slice_bounds-contract-count c = let i = inside (goal.at.slice_bounds-contract-count c).Start in search rules

pub slice_bounds-contract-start : goal.slice_bounds-contract-start
slice_bounds-contract-start c = let i = inside (goal.at.slice_bounds-contract-start c).Start in search rules

pub slice_bounds-contract-end : goal.slice_bounds-contract-end
slice_bounds-contract-end c = let i = inside (goal.at.slice_bounds-contract-end c).Start in search rules

pub overflow_add-contract : goal.overflow_add-contract
overflow_add-contract c = let i = numbers (goal.at.overflow_add-contract c).Start in search rules

pub offset_bounds-contracts-at : goal.offset_bounds-contracts-at
offset_bounds-contracts-at c = let i = numbers (goal.at.offset_bounds-contracts-at c).Start in search rules

pub bounds-contracts-at : goal.bounds-contracts-at
bounds-contracts-at c = let i = numbers (goal.at.bounds-contracts-at c).Start in search rules

pub overflow_add-contract-2 : goal.overflow_add-contract-2
overflow_add-contract-2 c = let i = numbers (goal.at.overflow_add-contract-2 c).Start in search rules

pub offset_bounds-contracts-at-2 : goal.offset_bounds-contracts-at-2
offset_bounds-contracts-at-2 c = let i = numbers (goal.at.offset_bounds-contracts-at-2 c).Start in search rules

pub bounds-contracts-at-2 : goal.bounds-contracts-at-2
bounds-contracts-at-2 c = let i = numbers (goal.at.bounds-contracts-at-2 c).Start in search rules

pub overflow_add-contract-3 : goal.overflow_add-contract-3
overflow_add-contract-3 c = let i = numbers (goal.at.overflow_add-contract-3 c).Start in search rules

pub offset_bounds-contracts-at-3 : goal.offset_bounds-contracts-at-3
offset_bounds-contracts-at-3 c = let i = numbers (goal.at.offset_bounds-contracts-at-3 c).Start in search rules

pub bounds-contracts-at-3 : goal.bounds-contracts-at-3
bounds-contracts-at-3 c = let i = numbers (goal.at.bounds-contracts-at-3 c).Start in search rules

pub overflow_add-contract-4 : goal.overflow_add-contract-4
overflow_add-contract-4 c = let i = numbers (goal.at.overflow_add-contract-4 c).Start in search rules

pub offset_bounds-contracts-at-4 : goal.offset_bounds-contracts-at-4
offset_bounds-contracts-at-4 c = let i = numbers (goal.at.offset_bounds-contracts-at-4 c).Start in search rules

pub bounds-contracts-at-4 : goal.bounds-contracts-at-4
bounds-contracts-at-4 c = let i = numbers (goal.at.bounds-contracts-at-4 c).Start in search rules

pub offset_bounds-weights-k : goal.offset_bounds-weights-k
offset_bounds-weights-k c = let i = c.requires.1 in search rules

pub bounds-weights-k : goal.bounds-weights-k
bounds-weights-k c = let i = c.requires.1 in search rules

-- its group counts from 1
grouped : (c : Start) → 0 < get_or c.args.contracts.now (5 * c.args.k + 4) 0
unfolding contract_at
grouped c = (c.requires.0.each c.args.k c.requires.1).some

pub overflow_sub-contract : goal.overflow_sub-contract
overflow_sub-contract c = let some = grouped (goal.at.overflow_sub-contract c).Start in search rules

-- and its row stands before that number
row_after : (c : Start) → get_or c.args.contracts.now (5 * c.args.k + 4) 0 - 1 + 1
    ≡ get_or c.args.contracts.now (5 * c.args.k + 4) 0
row_after c = omega (arith, grouped c)

-- its weight is small
weight_is : (c : Start) → let weight = get_or c.args.weights.now c.args.k (pos 0) in to_z w64 (of_z w64 weight) ≡ weight
unfolding contract_at
weight_is c =
    weight_held (get_or c.args.weights.now c.args.k (pos 0)) (c.requires.0.each c.args.k c.requires.1).light

pub add_positions-requires : goal.add_positions-requires
add_positions-requires c =
    let a = c.args in (
      rw (
        row_after (goal.at.add_positions-requires c).Start,
        weight_is (goal.at.add_positions-requires c).Start,
        contract_is a.bars _ _ _ a.k,
      )
          (c.requires.0.each a.k c.requires.1),
      rw (part_long a.bars _ a.k (inside (goal.at.add_positions-requires c).Start)) c.requires.2,
    )

pub returns : goal.returns
returns c =
    let a = c.args in
    rw (
      row_after (goal.at.returns c).Start,
      weight_is (goal.at.returns c).Start,
      contract_is a.bars a.series.now a.contracts.now a.weights.now a.k,
      part_long a.bars a.series.now a.k (inside (goal.at.returns c).Start),
    ) at c.add_positions.ensures
