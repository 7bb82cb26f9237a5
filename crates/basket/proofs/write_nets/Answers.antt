-- `write_nets` meets its contract: rows of zeros, to which the contracts are added. Assumes nothing.
use native.Mathlib.Omega.{arith}
use borrow.Author.Rules.{rules}
use Rattle.cells.proofs.Written.{stands, then_written}
use Rattle.basket.proofs.write_nets.Goals as goal

pub overflow_mul-bars : goal.overflow_mul-bars
overflow_mul-bars c = let room = c.requires.0.sized.out_long in search rules

pub fill-requires : goal.fill-requires
fill-requires c = c.requires.0.sized.out_long

pub add_contracts-requires : goal.add_contracts-requires
add_contracts-requires c =
    let flat = c.fill.ensures in
    (rw flat.long c.requires.0, stands flat, omega arith, c.requires.1)

pub returns : goal.returns
returns c = (
  then_written c.fill.ensures c.add_contracts.ensures.0
      (omega arith),
  c.add_contracts.ensures.1,
)
