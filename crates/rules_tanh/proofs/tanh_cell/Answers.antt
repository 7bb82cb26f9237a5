-- `tanh_cell` meets its contract: the constant has the recorded bits. Assumes nothing.
use mathlib.Core.Path.{refl}
use Rattle.rules_tanh.specs.Recorded.{threshold_bits}
use Rattle.rules_tanh.specs.Tanh.{thresholds}
use Rattle.rules_tanh.proofs.tanh_cell.Goals as goal

pub cell_of-requires : goal.cell_of-requires
unfolding thresholds threshold_bits
cell_of-requires c = refl
