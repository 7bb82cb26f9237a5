-- `fill_nan` meets its contract: 0.0 / 0.0 is NaN. Assumes nothing.
use borrow.Author.Rules.{rules}
use lib.Ieee.{of_bits, div}
use Rattle.cells.proofs.fill_nan.Goals as goal

pub returns : goal.returns
returns c = unfold of_bits div in search rules
