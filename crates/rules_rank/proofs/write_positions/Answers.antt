-- `write_positions` meets its contract: each turn writes one position. Assumes nothing.
use native.Mathlib.Omega.{arith}
use borrow.Author.Rules.{rules}
use lib.Ieee.{of_bits}
use Rattle.cells.proofs.Written.{none_written, one_more, ends}
use Rattle.rules_rank.proofs.write_positions.Goals as goal

pub loop-below-init : goal.loop-below-init
loop-below-init c = search (rules, none_written)

pub loop-below-preserved : goal.loop-below-preserved
unfolding of_bits
loop-below-preserved c = one_more c.loop-below.invariant (rw c.whole_rank.ensures) (omega arith)

pub returns : goal.returns
returns c = ends c.loop-below.invariant (omega arith)
