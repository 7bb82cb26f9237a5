-- `fill_outer_lines` meets its contract: 0 over 0 is NaN. Assumes nothing.
use lib.Ieee.{div, of_bits}
use Rattle.outer_lines.proofs.fill_outer_lines.Goals as goal

pub returns : goal.returns
unfolding div of_bits
returns c = (c.fill.ensures, c.fill-2.ensures)
