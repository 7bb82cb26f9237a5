-- `strength` meets its contract: the same operations in the same order. Assumes nothing.
use mathlib.Core.Path.{refl}
use lib.Ieee.{of_bits}
use Rattle.changes.proofs.strength.Goals as goal

pub returns : goal.returns
returns c = unfold of_bits in refl
