-- `Coefficients::of_pair` meets its contract: the same operations in the same order. Assumes nothing.
use Rattle.std.proofs.Common.{rules}
use lib.Ieee.{of_bits}
use Rattle.smoother_table.specs.Coefficients.{of_pair}
use Rattle.smoother_table.proofs.Coefficients.of_pair.Goals as goal

pub returns : goal.returns
returns c = unfold of_pair of_bits in search rules
