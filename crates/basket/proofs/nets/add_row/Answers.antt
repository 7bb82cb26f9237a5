-- `add_row` meets its contract: each turn adds one position to its cell. Assumes nothing.
use Prim.Native.Nat.{◌+◌, ◌≤◌}
use native.Mathlib.Omega.{arith}
use lib.IntN.{nat_abs, pos}
use lib.ListN.{get_or}
use Rattle.basket.specs.inner.Adding.{largest_so_far}
use Rattle.basket.proofs.Adding.{none_added, still_small, one_added, all_added}
use Rattle.basket.proofs.Weights.{weight_held, sum_fits, sum_is}
use Rattle.basket.proofs.nets.add_row.Goals as goal
use Rattle.basket.proofs.nets.add_row.Goals.{After-out-1}

-- the cell is as it was
small : (c : After-out-1) →
    nat_abs (get_or c.loop-j.out (c.args.first + c.loop-j.j) (pos 0)) ≤ largest_so_far
small c =
    still_small c.loop-j.invariant (c.requires.small c.loop-j.j c.loop-j-test.true)

pub loop-j-init : goal.loop-j-init
loop-j-init c = none_added

pub weighted-requires : goal.weighted-requires
weighted-requires c = rw (weight_held c.args.weight c.requires.light) c.requires.light

pub overflow_add-out-in-loop-j : goal.overflow_add-out-in-loop-j
overflow_add-out-in-loop-j c =
    sum_fits c.args.weight c.requires.light _
    (get_or c.loop-j.out (c.args.first + c.loop-j.j) (pos 0)) (small c) c.weighted.ensures

pub loop-j-preserved : goal.loop-j-preserved
loop-j-preserved c =
    one_added c.loop-j.invariant
    (sum_is c.args.weight c.requires.light _
    (get_or c.loop-j.out (c.args.first + c.loop-j.j) (pos 0)) (small c) c.weighted.ensures)
    (omega arith)

pub returns : goal.returns
returns c =
    rw (weight_held c.args.weight c.requires.light) at
    (all_added {n = c.args.count} c.loop-j.invariant (omega arith))
