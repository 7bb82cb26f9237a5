-- `accepted_from` meets its contract: the quick test is enough, and else each number is tested. Assumes nothing.
use Rattle.std.proofs.Common.{arith}
use Rattle.values.proofs.Quick.{quick_passing}
use Rattle.values.proofs.series.accepted_from.Goals as goal

pub returns-then-or_of_bits-le-LARGEST_VALUE_BITS-2 : goal.returns-then-or_of_bits-le-LARGEST_VALUE_BITS-2
returns-then-or_of_bits-le-LARGEST_VALUE_BITS-2 c =
    quick_passing c.or_of_bits-then-or_of_bits-le-LARGEST_VALUE_BITS.ensures c.shared_slice_known-1.given (omega arith)
