-- `place_at` meets its contract: a count, and one more. Assumes nothing.
use lib.Ieee.{of_bits, round}
use Rattle.rounding.specs.Literals.{ten_to_minus}
use Rattle.rules_rank.specs.inner.Place.{counted_place}
use Rattle.rules_rank.proofs.place_at.Goals as goal

pub returns : goal.returns
unfolding counted_place ten_to_minus round of_bits
returns c = rw c.count_below_by-below.ensures.is
