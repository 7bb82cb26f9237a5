-- `jv_of` meets its contract: the formula, where both are numbers. Assumes nothing.
use lib.Ieee.{of_bits}
use Rattle.jurik.specs.Jurik.{jv_of}
use Rattle.jurik.proofs.jv_of.Goals as goal

pub returns-then-is_nan : goal.returns-then-is_nan
unfolding jv_of of_bits
returns-then-is_nan c = rw (← c.is_nan.ensures.value, ← c.is_nan-2.ensures.value, c.if-is_nan.true)

pub returns-else-is_nan : goal.returns-else-is_nan
unfolding jv_of of_bits
returns-else-is_nan c = rw (← c.is_nan.ensures.value, ← c.is_nan-2.ensures.value, c.if-is_nan.false)
