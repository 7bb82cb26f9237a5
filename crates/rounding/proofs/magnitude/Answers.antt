-- `magnitude` meets its contract: it picks the larger of x and its opposite. Assumes nothing.
use Rattle.std.proofs.Common.{T, sym, subst}
use lib.Ieee.{binary64, fits, of_bits}
use Rattle.rounding.proofs.Opposite.{larger_of_both}
use Rattle.rounding.proofs.magnitude.Goals as goal
use Rattle.rounding.proofs.magnitude.Goals.{Start}

fit : (c : Start) → T (fits binary64 c.args.x)
fit c = subst T (sym c.well_formed.0.1) tt

pub returns-then-opposite-x : goal.returns-then-opposite-x
returns-then-opposite-x c = unfold of_bits in rw (← larger_of_both _ (fit c.before), c.if-opposite-x.true)

pub returns-else-opposite-x : goal.returns-else-opposite-x
returns-else-opposite-x c = unfold of_bits in rw (← larger_of_both _ (fit c.before), c.if-opposite-x.false)
