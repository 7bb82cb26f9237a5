-- `sign_of_number` meets its contract: the highest bit of a number is its sign. Assumes nothing.
use Rattle.std.proofs.Common.{◌≡◌, ◌^◌, Bool, true, false, not, T, leb, sym, subst, le-leb}
use borrow.Author.Tests.{lt-leb}
use lib.Ieee.{binary64, of_bits, to_bits, neg}
use Rattle.rounding.specs.Leaves.{one, sign_of}
use Rattle.rounding.proofs.Signs.{sign_is}
use Rattle.rounding.proofs.Patterns.{highest_bit}
use Rattle.rounding.proofs.sign_of_number.Goals as goal
use Rattle.rounding.proofs.sign_of_number.Goals.{Start}

-- the test of the highest bit said s
signed : (c : Start) (s : Bool) → leb (2 ^ 63) (to_bits binary64 c.args.x) ≡ s → one s ≡ sign_of c.args.x
signed c s e = rw (sign_is _ c.requires, ← highest_bit _ (subst T (sym c.well_formed.0.1) tt) c.requires, e)

pub float_to_bits-x : goal.float_to_bits-x
float_to_bits-x c = subst (λ (t : Bool). T (not t)) (sym c.requires) tt

pub returns-then-x-ge9223372036854775808 : goal.returns-then-x-ge9223372036854775808
unfolding of_bits neg
returns-then-x-ge9223372036854775808 c = signed c.before true (le-leb _ _ c.if-x-ge9223372036854775808.true)

pub returns-else-x-ge9223372036854775808 : goal.returns-else-x-ge9223372036854775808
unfolding of_bits
returns-else-x-ge9223372036854775808 c = signed c.before false (lt-leb _ _ c.if-x-ge9223372036854775808.false)
