-- `sum_at` meets its contract: its window is summed from -0.0. Assumes nothing.
use lib.Ieee.{of_bits, neg}
use Rattle.windows.specs.Window.{window_sum}
use Rattle.windows.proofs.sum_at.Goals as goal

pub returns : goal.returns
returns c = unfold of_bits neg window_sum in c.sum_more.ensures
