-- `steps_of` meets its contract: the thresholds part where the largest k is. Assumes nothing.
use native.Mathlib.Omega.{arith}
use borrow.Author.Rules.{rules}
use lib.Ieee.{le}
use Rattle.std.proofs.lemmas.List.Sorted.{IsPartitionPoint-from_clause}
use Rattle.rules_tanh.proofs.Thresholds.{in_two_parts, found}
use Rattle.rules_tanh.proofs.bar.steps_of.Goals as goal

pub returns : goal.returns
returns c =
    let a = c.args in
    let point = c.partition_point in
    let parts = IsPartitionPoint-from_clause (λ t. le t a.size) a.table.now point.result point.ensures.partitioned
    (rw c.requires (in_two_parts a.size)) (λ x r f k. search rules) in
    found a.size point.result (omega (arith, point.ensures.bound)) (rw c.requires at parts)
