-- `step` meets its contract: the same operations in the same order. Assumes nothing.
use Rattle.std.proofs.Common.{refl}
use lib.Ieee.{of_bits}
use Rattle.smoother.specs.Smoother.{formula}
use Rattle.smoother.proofs.step.Goals as goal

pub returns : goal.returns
returns c = unfold formula of_bits in refl
