-- `magnitude_of_number` meets its contract: all bits but the highest are those of the number without its sign. Assumes
-- nothing.
use Rattle.std.proofs.Common.{Bool, not, T, sym, subst}
use lib.Ieee.{binary64, fits}
use Rattle.rounding.proofs.Patterns.{other_bits, other_bits_number}
use Rattle.rounding.proofs.magnitude_of_number.Goals as goal
use Rattle.rounding.proofs.magnitude_of_number.Goals.{Start}

fit : (c : Start) → T (fits binary64 c.args.x)
fit c = subst T (sym c.well_formed.0.1) tt

pub float_to_bits-result : goal.float_to_bits-result
float_to_bits-result c = subst (λ (t : Bool). T (not t)) (sym c.requires) tt

pub float_from_bits-result : goal.float_from_bits-result
float_from_bits-result c = other_bits_number _ (fit c) c.requires

pub returns : goal.returns
returns c = other_bits _ (fit c)
