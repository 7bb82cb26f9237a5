-- `write_smooth` meets its contract: the cells of the formula stand on the first four, which are copied. Assumes
-- nothing.
use Rattle.std.proofs.Common.{arith}
use Rattle.cells.proofs.Written.{stands, ends}
use Rattle.smoother.proofs.Smoother.{copied}
use Rattle.smoother.proofs.write_smooth.Goals as goal

pub write_steps-requires : goal.write_steps-requires
write_steps-requires c =
    let first = copied c.of_period.result c.copy.ensures (omega arith) in
    record { some = omega arith; room = omega (arith, first.long); first = stands (ends first (omega arith)) }

pub returns-else-price-gt4 : goal.returns-else-price-gt4
returns-else-price-gt4 c = ends (copied _ c.copy.ensures (omega arith)) (omega arith)
