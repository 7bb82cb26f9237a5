-- `minus_zero_bits` meets its contract: of the two zeros only -0.0 has a bit, and of all numbers only -0.0 has its
-- bits. Assumes nothing.
use Rattle.std.proofs.Common.{T, sym, subst}
use lib.Ieee.{binary64, fits, of_bits}
use Rattle.values.proofs.Zero.{of_zero, of_other}
use Rattle.values.proofs.minus_zero_bits.Goals as goal
use Rattle.values.proofs.minus_zero_bits.Goals.{Start}

fit : (c : Start) → T (fits binary64 c.args.x)
fit c = subst T (sym c.well_formed.0.1) tt

pub returns-then-x : goal.returns-then-x
returns-then-x c = unfold of_bits in of_zero _ (fit (goal.at.returns-then-x c).Start) c.if-x.true

pub returns-else-x : goal.returns-else-x
returns-else-x c = unfold of_bits in of_other _ (fit (goal.at.returns-else-x c).Start) c.if-x.false
