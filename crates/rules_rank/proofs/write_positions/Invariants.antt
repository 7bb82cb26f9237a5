-- `write_positions` meets its contract: each turn writes one position. Assumes nothing.
use Prim.Native.Nat.{◌-◌}
use Rattle.cells.specs.Written.{Writing}
use Rattle.rules_rank.specs.Rank.{rank_of}
use Rattle.rules_rank.proofs.write_positions.Given as goal

abbrev pub invariant-loop-below : goal.invariant-loop-below
invariant-loop-below l = Writing l.below (λ c. rank_of c (l.n - 1)) l.initial.positions l.positions
