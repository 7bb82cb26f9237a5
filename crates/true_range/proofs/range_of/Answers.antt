-- `range_of` meets its contract: the parts are put together as `true_range` has them. Assumes nothing.
use Rattle.true_range.specs.TrueRange.{true_range}
use Rattle.true_range.proofs.range_of.Goals as goal

pub returns-in_default : goal.returns-in_default
returns-in_default c = unfold true_range in rw c.in_default.is

pub returns : goal.returns
unfolding true_range
returns c =
    rw (
      c.in-Some.is,
      c.larger_of-2.ensures,
      c.larger_of.ensures,
      c.magnitude_of_number-below.ensures,
      c.magnitude_of_number-above.ensures,
    )
