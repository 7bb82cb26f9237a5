-- `weigh` meets its contract: the literals are those of the definition. Assumes nothing.
use mathlib.Core.Path.{refl}
use lib.Ieee.{of_bits}
use Rattle.oscillator.proofs.bar.weigh.Goals as goal

pub returns : goal.returns
returns c = unfold of_bits in refl
