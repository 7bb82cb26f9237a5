-- `guess` meets its contract: no bits on the way are a NaN's. Assumes nothing.
use native.Mathlib.Omega.{arith}
use Rattle.rounding_root.proofs.Patterns.{no_nan}
use Rattle.rounding_root.proofs.guess.Goals as goal

pub float_from_bits-x : goal.float_from_bits-x
float_from_bits-x c = no_nan _ (omega (arith, c.requires))

pub float_from_bits-y : goal.float_from_bits-y
float_from_bits-y c = no_nan _ (omega arith)
