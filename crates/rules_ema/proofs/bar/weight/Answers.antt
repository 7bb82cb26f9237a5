-- `weight` meets its contract: 2 over n + 1. Assumes nothing.
use mathlib.Core.Path.{refl}
use lib.Ieee.{of_bits}
use Rattle.rules_ema.proofs.bar.weight.Goals as goal

pub returns : goal.returns
unfolding of_bits
returns c = refl
