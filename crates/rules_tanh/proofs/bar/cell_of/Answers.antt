-- `cell_of` meets its contract: it is the definition. Assumes nothing.
use Prim.Native.Nat.{◌≤◌}
use native.Mathlib.Omega.{arith}
use lib.Ieee.{of_bits}
use Rattle.windows.proofs.Window.{count_is_float}
use Rattle.rules_tanh.specs.Tanh.{tanh_cell}
use Rattle.rules_tanh.proofs.Thresholds.{steps_most}
use Rattle.rules_tanh.proofs.bar.cell_of.Goals as goal

pub int_to_float-result : goal.int_to_float-result
int_to_float-result c =
    let call = c.steps_of-steps in
    let few : call.result ≤ 100 = rw call.ensures (steps_most _) in
    count_is_float call.result (omega arith)

pub returns : goal.returns
unfolding tanh_cell of_bits
returns c = rw (c.sign.ensures, c.steps_of-steps.ensures, c.magnitude.ensures)
