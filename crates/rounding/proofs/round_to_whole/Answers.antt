-- `round_to_whole` meets its contract: below 2 ^ 52 one more than the whole part of twice the magnitude is halved,
-- and the sign put back by a product with it. Assumes nothing.
use Rattle.std.proofs.Common.{◌≡◌, ◌+◌, ◌/◌, ◌^◌, T, sym, subst, arith, le→leb}
use lib.Ieee.{of_bits, in_float, of_int, to_unsigned}
use Rattle.rounding.proofs.ToWhole.{doubled, Halves, halves, whole_already}
use Rattle.rounding.proofs.round_to_whole.Goals as goal
use Rattle.rounding.proofs.round_to_whole.Goals.{After-truncating_f64_to_u64-halves, Then-size}

-- the magnitude is below 2 ^ 52
below : (c : Then-size) → Halves c.args.x
unfolding of_bits
below c =
    halves c.args.x (subst T (sym c.well_formed.0.1) tt)
    (rw c.magnitude-size.ensures at c.if-size.true)

-- the whole part of its double
part : (c : After-truncating_f64_to_u64-halves) → c.truncating_f64_to_u64-halves.result
    ≡ to_unsigned 64 (doubled c.args.x)
unfolding of_bits
part c = rw (c.truncating_f64_to_u64-halves.ensures, c.magnitude-size.ensures)

pub truncating_f64_to_u64-halves-requires : goal.truncating_f64_to_u64-halves-requires
unfolding of_bits
truncating_f64_to_u64-halves-requires c =
    rw c.magnitude-size.ensures (record { lower_bound = (below c).above; upper_bound = (below c).below })

pub overflow_add-whole : goal.overflow_add-whole
overflow_add-whole c = omega (arith, part c, (below c.before).small)

pub int_to_float-whole : goal.int_to_float-whole
unfolding in_float
int_to_float-whole c =
    le→leb ((c.truncating_f64_to_u64-halves.result + 1) / 2) (2 ^ 53)
    (omega (arith, part c.before, (below c.before.before).small))

pub returns-then-size : goal.returns-then-size
unfolding of_int
returns-then-size c = rw (c.sign.ensures, part c.before.before) (below c.before.before.before).whole

pub returns-else-size : goal.returns-else-size
unfolding of_bits
returns-else-size c =
    whole_already c.args.x (subst T (sym c.well_formed.0.1) tt)
    (rw c.magnitude-size.ensures at c.if-size.false)
