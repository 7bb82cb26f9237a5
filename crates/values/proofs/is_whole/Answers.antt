-- `is_whole` meets its contract: it is the definition. Assumes nothing.
use Rattle.std.proofs.Common.{refl}
use lib.Ieee.{of_bits}
use Rattle.values.specs.inner.Fraction.{comes_back}
use Rattle.values.proofs.is_whole.Goals as goal

pub returns : goal.returns
returns c = unfold of_bits comes_back in refl
