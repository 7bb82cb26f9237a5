-- `write_some` meets its contract: each turn reads a bar's mean, middle and variance, and writes its cell. Assumes
-- nothing.
use mathlib.Core.Path.{ap, ◌∙◌}
use Prim.Native.Nat.{◌+◌}
use native.Mathlib.Omega.{arith}
use lib.Ieee.{nan}
use Rattle.cells.proofs.Written.{step, read_back}
use Rattle.rules_tanh.specs.Tanh.{tanh_cell}
use Rattle.rules_tanh.proofs.Cells.{cell_at}
use Rattle.rules_tanh.proofs.write_some.Goals as goal

pub loop-j-preserved : goal.loop-j-preserved
loop-j-preserved c =
    let a = c.args in
    let few = c.write_spreads-count.ensures in
    let j = c.loop-j.j in
    let middle = read_back j nan few.middles (omega arith) in
    let variance = read_back j nan few.variances (omega arith) in
    let due = cell_at a.n (a.i + j) _ middle variance (omega arith) in
    let is = c.cell_of.ensures ∙ ap tanh_cell c.score_of-score.ensures ∙ due in
    step (a.i + j) (a.i + (j + 1)) c.loop-j.invariant is (omega arith)
