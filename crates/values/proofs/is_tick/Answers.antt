-- `is_tick` meets its contract: within 2 ^ 24 a magnitude that is its own whole part is a tick's. Assumes nothing.
use Rattle.std.proofs.Common.{◌≡◌, Bool, pos, sym}
use lib.Ieee.{eq, of_bits, of_int, binary64, to_unsigned}
use Rattle.rounding.specs.Leaves.{magnitude_of}
use Rattle.values.proofs.Ticks.{TickTests, tick_tests, too_far}
use Rattle.values.proofs.is_tick.Goals as goal
use Rattle.values.proofs.is_tick.Goals.{After-row_known-1, After-truncating_f64_to_u64-whole, Then-size}

within : (c : Then-size) → TickTests c.args.x
unfolding of_bits
within c = tick_tests c.args.x (rw c.magnitude-size.ensures at c.if-size.true)

-- the whole part is that of the magnitude
part : (c : After-truncating_f64_to_u64-whole)
    → c.truncating_f64_to_u64-whole.result ≡ to_unsigned 64 (magnitude_of c.args.x)
part c = rw (c.truncating_f64_to_u64-whole.ensures, c.magnitude-size.ensures)

-- what the second test found, of the number alone
found : (c : After-row_known-1) (t : Bool)
    → let x = c.args.x in
    eq (of_int binary64 (pos c.truncating_f64_to_u64-whole.result))
    c.magnitude-size.result ≡ t
    → eq (of_int binary64 (pos (to_unsigned 64 (magnitude_of x)))) (magnitude_of x) ≡ t
found c t e = rw (part c.before.before, c.magnitude-size.ensures) at e

pub truncating_f64_to_u64-whole-requires : goal.truncating_f64_to_u64-whole-requires
truncating_f64_to_u64-whole-requires c =
    rw c.magnitude-size.ensures (record { lower_bound = (within c).low; upper_bound = (within c).high })

pub int_to_float-whole : goal.int_to_float-whole
int_to_float-whole c =
    rw (part (goal.at.int_to_float-whole c).After-truncating_f64_to_u64-whole)
    (within (goal.at.int_to_float-whole c).Then-size).back

pub returns-then-x : goal.returns-then-x
unfolding of_bits
returns-then-x c =
    rw c.sign.ensures (sym ((within (goal.at.returns-then-x c).Then-size).zeros
    (found (goal.at.returns-then-x c).After-row_known-1 _ c.if-whole-size.true) c.if-x.true))

pub returns-then-whole-size : goal.returns-then-whole-size
unfolding of_bits
returns-then-whole-size c =
    sym ((within (goal.at.returns-then-whole-size c).Then-size).kept
    (found (goal.at.returns-then-whole-size c).After-row_known-1 _ c.if-whole-size.true)
    c.if-x.false)

pub returns-else-whole-size : goal.returns-else-whole-size
returns-else-whole-size c =
    sym ((within (goal.at.returns-else-whole-size c).Then-size).broken
    (found (goal.at.returns-else-whole-size c).After-row_known-1 _ c.if-whole-size.false))

pub returns-else-size : goal.returns-else-size
returns-else-size c = unfold of_bits in sym (too_far _ (rw c.magnitude-size.ensures at c.if-size.false))
